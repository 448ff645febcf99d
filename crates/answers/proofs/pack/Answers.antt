use mathlib.Core.Path.{refl}
use Rattle.answers.specs.Word.{word}
use Rattle.answers.proofs.pack.Goals as goal

pub returns : goal.returns
unfolding word
returns c = refl
