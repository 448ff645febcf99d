use Rattle.std.proofs.Common.{ap₂, ◌∙◌}
use Rattle.words.specs.Changed.{changed}
use Rattle.words.specs.BitLaws.{ones-changed}
use Rattle.words.proofs.set.changed.Goals as goal

pub returns : goal.returns
returns g c = ones-changed g.W.Word.BITS _ _ c.wide.ensures.fits c.wide-2.ensures.fits ∙ ap₂ (changed g.W.Word.BITS) c.wide.ensures.value c.wide-2.ensures.value
