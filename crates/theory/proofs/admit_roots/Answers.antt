use borrow.Author.Rules.{rules}
use borrow.Author.Tests.{lt-ltb, le-ltb}
use native.Mathlib.Nat.{sub-zero}
use Rattle.theory.specs.Admission.{root_admission, roots_admission}
use Rattle.theory.specs.Refusals.{first_stop, first_go, first_done}
use Rattle.theory.proofs.admit_roots.Goals as goal

pub loop-i-init : goal.loop-i-init
unfolding roots_admission
loop-i-init c = (search rules, search rules, rw sub-zero)

pub returns-then-word-counts : goal.returns-then-word-counts
unfolding root_admission
returns-then-word-counts c = first_stop _ _ _ _ c.loop-i.invariant.2 _ c.loop-i-test.true (simp (← c.word.ensures.value, le-ltb _ _ c.if-word-counts.true))

pub loop-i-preserved : goal.loop-i-preserved
unfolding root_admission
loop-i-preserved c = (search rules, search rules, first_go _ _ _ _ c.loop-i.invariant.2 c.loop-i-test.true (simp (← c.word.ensures.value, lt-ltb _ _ c.if-word-counts.false)))

pub returns : goal.returns
returns c = first_done _ _ _ _ c.loop-i.invariant.2 c.loop-i-test.false
