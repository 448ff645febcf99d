use Rattle.words.specs.Halves.{half_read}
use Rattle.words.proofs.half_word.Goals as goal

pub returns : goal.returns
returns c = half_read _ _
