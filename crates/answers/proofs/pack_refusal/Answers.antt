use mathlib.Core.Path.{◌∙◌}
use Rattle.answers.specs.PackLaws.{told_fit, told_packed}
use Rattle.answers.proofs.pack_refusal.Goals as goal

pub pack-requires : goal.pack-requires
pack-requires c = rw c.in-Some.is at (told_fit c.args.r c.numbers_of-told.result c.numbers_of-told.ensures c.requires)

pub pack-requires-in-None : goal.pack-requires-in-None
pack-requires-in-None c = rw c.in-None.is at (told_fit c.args.r c.numbers_of-told.result c.numbers_of-told.ensures c.requires)

pub returns-in-Some : goal.returns-in-Some
returns-in-Some c = c.pack.ensures ∙ rw c.in-Some.is at (told_packed c.args.r c.numbers_of-told.result c.numbers_of-told.ensures)

pub returns-in-None : goal.returns-in-None
returns-in-None c = c.pack-in-None.ensures ∙ rw c.in-None.is at (told_packed c.args.r c.numbers_of-told.result c.numbers_of-told.ensures)
