use mathlib.Core.Path.{refl}
use Rattle.readers.specs.Pass.{counted}
use Rattle.readers.proofs.CountingPass.enter.Goals as goal

pub returns : goal.returns
unfolding counted
returns c = refl
