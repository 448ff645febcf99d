use borrow.Author.Rules.{rules}
use native.Mathlib.Omega.{arith}
use mathlib.Core.Path.{refl, ◌∙◌}
use native.Mathlib.Nat.{add-sub_cancel_left}
use Rattle.theory.specs.Spans.{below_stop, below_go, below_done}
use Rattle.theory.proofs.all_below.Goals as goal

pub loop-i-init : goal.loop-i-init
loop-i-init c = (search rules, search rules, rw add-sub_cancel_left)

pub returns-then-word-k : goal.returns-then-word-k
returns-then-word-k c = below_stop _ _ _ _ _ c.loop-i.invariant.2 c.loop-i-test.true (omega (arith, c.loop-i.invariant.1, c.requires)) (rw c.word.ensures.value at c.if-word-k.true)

pub loop-i-preserved : goal.loop-i-preserved
loop-i-preserved c = (search rules, search rules, c.loop-i.invariant.2 ∙ below_go _ _ _ _ _ refl c.loop-i-test.true (omega (arith, c.loop-i.invariant.1, c.requires)) (rw c.word.ensures.value at c.if-word-k.false))

pub returns : goal.returns
returns c = below_done _ _ _ _ _ c.loop-i.invariant.2 c.loop-i-test.false
