use mathlib.Core.Path.{refl}
use Rattle.readers.specs.LaidLaws.{list_read}
use Rattle.readers.proofs.list_from.Goals as goal

pub returns : goal.returns
returns c = list_read _ _ _ _ c.requires.2 c.word-end.ensures.value _ refl
