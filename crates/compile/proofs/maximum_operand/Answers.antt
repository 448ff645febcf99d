use borrow.Author.Rules.{rules}
use native.Mathlib.Omega.{arith}
use native.Mathlib.Nat.{add-sub_cancel_left}
use Rattle.compile.specs.Greatest.{greatest_more, greatest_done}
use Rattle.compile.proofs.maximum_operand.Goals as goal

pub overflow_add-end : goal.overflow_add-end
overflow_add-end c = omega (arith, c.requires.within)

pub loop-i-init : goal.loop-i-init
loop-i-init c = (search rules, search rules, search rules, search rules, rw add-sub_cancel_left (omega arith))

pub word-child-requires : goal.word-child-requires
word-child-requires c = omega (arith, c.loop-i.invariant.2, c.requires.within)

pub word-requires : goal.word-requires
word-requires c = rw c.word-child.ensures.value (c.requires.lower _ c.loop-i.invariant.1 (omega (arith, c.loop-i.invariant.2)))

pub loop-i-preserved : goal.loop-i-preserved
loop-i-preserved c = (search rules, search rules, search rules, omega (arith, c.max-value.ensures, c.word.ensures.upper_bound), greatest_more _ _ _ _ _ _ c.loop-i.invariant.4 _ _ _ c.loop-i-test.true (omega (arith, c.loop-i.invariant.2, c.requires.within)) c.word-child.ensures.value c.word.ensures.value c.max-value.ensures)

pub returns : goal.returns
returns c = record { value = greatest_done _ _ _ _ _ _ c.loop-i.invariant.4 c.loop-i-test.false; upper_bound = c.loop-i.invariant.3 }
