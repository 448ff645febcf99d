use Rattle.base.specs.Raised.{raised}
use native.Mathlib.Omega.{arith}
use mathlib.Core.Path.{ap, sym, ◌∙◌}
use mathlib.Core.Bool.{false}
use Rattle.kept.specs.CountedSet.{moved}
use Rattle.kept_laws.specs.Given.{sized}
use Rattle.kept_laws.specs.Exits.{moved_down, moved_empty}
use Rattle.retained.specs.SupportLaws.{support_astray, support_none, support_done}
use Rattle.retained.proofs.lose.Goals as goal

pub returns-then-before-eq0 : goal.returns-then-before-eq0
returns-then-before-eq0 c = let g = c.args in λ T. support_astray (sized g.counts T) g.kept.now c.requires.2 g.a c.requires.1 false (sym (ap (moved T.made false) (sym (rw c.support_at.ensures at c.word-before.ensures.value) ∙ c.if-before-eq0.true) ∙ moved_empty T.made))

pub returns-in_err-deserted : goal.returns-in_err-deserted
returns-in_err-deserted c = let g = c.args in λ T. rw (raised _ _ c.from_residual.ensures.1) (support_none (sized g.counts T) g.kept.now c.requires.2 g.a c.requires.1 false _ (sym (moved_down T.made _ (omega (arith, c.if-before-eq0.false, (rw c.support_at.ensures at c.word-before.ensures.value))))) _ _ (rw (rw c.support_at.ensures at c.word-before.ensures.value) at (c.deserted.ensures (sized g.counts T))) c.in_err-deserted.was)

pub returns : goal.returns
returns c = let g = c.args in λ T. rw (c.support_at.ensures, (rw c.support_at.ensures at c.word-before.ensures.value)) (support_done (sized g.counts T) g.kept.now c.requires.2 g.a c.requires.1 false _ (sym (moved_down T.made _ (omega (arith, c.if-before-eq0.false, (rw c.support_at.ensures at c.word-before.ensures.value))))) _ _ (rw (rw c.support_at.ensures at c.word-before.ensures.value) at (c.deserted.ensures (sized g.counts T))) c.in_ok-deserted.was)
