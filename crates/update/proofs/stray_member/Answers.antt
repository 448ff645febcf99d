use Prim.Native.Nat.{◌-◌}
use mathlib.Core.Path.{ap, ◌∙◌}
use mathlib.Core.Bool.{false}
use lib.ListN.{get_or}
use Rattle.kept_laws.specs.Given.{sized}
use Rattle.update.specs.WalkLaws.{last_word, stray_none, stray_last}
use Rattle.update.proofs.stray_member.Goals as goal

pub returns-then-a-eq0 : goal.returns-then-a-eq0
returns-then-a-eq0 c = λ T. stray_none (sized c.args.counts T) (λ a. false) c.args.kept.now c.requires.1 c.if-a-eq0.true

pub returns : goal.returns
returns c = let g = c.args in λ T. stray_last (sized g.counts T) (λ a. false) g.kept.now c.requires.1 _ c.if-a-eq0.false (ap (λ r. get_or g.kept.now (r - 1) 0) c.missing_at-at.ensures ∙ ap (λ i. get_or g.kept.now i 0) (last_word g.counts c.if-a-eq0.false)) (c.type_inv.kept (c.missing_at-at.result - 1)).fits
