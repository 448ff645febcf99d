use Rattle.readers.specs.Pass.{placed}
use Rattle.readers.proofs.PlacingPass.enter.Goals as goal

pub returns : goal.returns
unfolding placed
returns c = rw c.word-at.ensures.value
