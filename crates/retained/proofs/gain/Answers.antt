use Rattle.base.specs.Raised.{raised}
use native.Mathlib.Omega.{arith}
use mathlib.Core.Path.{sym}
use mathlib.Core.Bool.{true}
use Rattle.kept_laws.specs.Given.{supplied}
use Rattle.kept_laws.specs.Exits.{moved_up, moved_full}
use Rattle.retained.specs.SupportLaws.{support_astray, support_none, support_done}
use Rattle.retained.proofs.gain.Goals as goal

pub returns-then-before-made : goal.returns-then-before-made
returns-then-before-made c = let g = c.args in λ T. support_astray (supplied g.counts g.made T) g.kept.now c.requires.3 g.a c.requires.2 true (sym (moved_full g.made _ (omega (arith, c.if-before-made.true, (rw c.support_at.ensures at c.word-before.ensures.value)))))

pub returns-in_err-relieved : goal.returns-in_err-relieved
returns-in_err-relieved c = let g = c.args in λ T. rw (raised _ _ c.from_residual.ensures.1) (support_none (supplied g.counts g.made T) g.kept.now c.requires.3 g.a c.requires.2 true _ (sym (moved_up g.made _ (omega (arith, c.if-before-made.false, (rw c.support_at.ensures at c.word-before.ensures.value))))) _ _ (rw (rw c.support_at.ensures at c.word-before.ensures.value) at (c.relieved.ensures (supplied g.counts g.made T))) c.in_err-relieved.was)

pub returns : goal.returns
returns c = let g = c.args in λ T. rw (c.support_at.ensures, (rw c.support_at.ensures at c.word-before.ensures.value)) (support_done (supplied g.counts g.made T) g.kept.now c.requires.3 g.a c.requires.2 true _ (sym (moved_up g.made _ (omega (arith, c.if-before-made.false, (rw c.support_at.ensures at c.word-before.ensures.value))))) _ _ (rw (rw c.support_at.ensures at c.word-before.ensures.value) at (c.relieved.ensures (supplied g.counts g.made T))) c.in_ok-relieved.was)
