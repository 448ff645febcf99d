use borrow.Author.Tests.{lt-ltb, le-ltb}
use native.Mathlib.Omega.{arith}
use Rattle.plan.specs.Buffers.{short_buffer}
use Rattle.plan.proofs.short_buffer.Goals as goal

pub returns-then-l-counts : goal.returns-then-l-counts
unfolding short_buffer
returns-then-l-counts c = simp (lt-ltb _ _ c.if-l-counts.true)

pub returns-then-l-counts-2 : goal.returns-then-l-counts-2
unfolding short_buffer
returns-then-l-counts-2 c = simp (le-ltb _ _ c.if-l-counts.false, lt-ltb _ _ c.if-l-counts-2.true)

pub returns-then-l-counts-3 : goal.returns-then-l-counts-3
unfolding short_buffer
returns-then-l-counts-3 c = simp (le-ltb _ _ c.if-l-counts.false, le-ltb _ _ c.if-l-counts-2.false, lt-ltb _ _ c.if-l-counts-3.true)

pub returns-then-l-counts-4 : goal.returns-then-l-counts-4
unfolding short_buffer
returns-then-l-counts-4 c = simp (le-ltb _ _ c.if-l-counts.false, le-ltb _ _ c.if-l-counts-2.false, le-ltb _ _ c.if-l-counts-3.false, lt-ltb _ _ c.if-l-counts-4.true)

pub returns-then-l-counts-5 : goal.returns-then-l-counts-5
unfolding short_buffer
returns-then-l-counts-5 c = simp (le-ltb _ _ c.if-l-counts.false, le-ltb _ _ c.if-l-counts-2.false, le-ltb _ _ c.if-l-counts-3.false, le-ltb _ _ c.if-l-counts-4.false, lt-ltb _ _ c.if-l-counts-5.true)

pub returns-then-l-table_words : goal.returns-then-l-table_words
unfolding short_buffer
returns-then-l-table_words c = simp (le-ltb _ _ c.if-l-counts.false, le-ltb _ _ c.if-l-counts-2.false, le-ltb _ _ c.if-l-counts-3.false, le-ltb _ _ c.if-l-counts-4.false, le-ltb _ _ c.if-l-counts-5.false, lt-ltb _ _ (rw c.table_words.ensures at c.if-l-table_words.true))

pub overflow_mul-counts-3 : goal.overflow_mul-counts-3
overflow_mul-counts-3 c = omega (arith, c.requires.atoms, c.requires.nodes, c.requires.operands, c.requires.roots)

pub overflow_add-counts-2 : goal.overflow_add-counts-2
overflow_add-counts-2 c = omega (arith, c.requires.atoms, c.requires.nodes, c.requires.operands, c.requires.roots)

pub overflow_mul-counts-4 : goal.overflow_mul-counts-4
overflow_mul-counts-4 c = omega (arith, c.requires.atoms, c.requires.nodes, c.requires.operands, c.requires.roots)

pub overflow_add-counts-5 : goal.overflow_add-counts-5
overflow_add-counts-5 c = omega (arith, c.requires.atoms, c.requires.nodes, c.requires.operands, c.requires.roots)

pub returns-then-l-counts-6 : goal.returns-then-l-counts-6
unfolding short_buffer
returns-then-l-counts-6 c = simp (le-ltb _ _ c.if-l-counts.false, le-ltb _ _ c.if-l-counts-2.false, le-ltb _ _ c.if-l-counts-3.false, le-ltb _ _ c.if-l-counts-4.false, le-ltb _ _ c.if-l-counts-5.false, le-ltb _ _ (rw c.table_words.ensures at c.if-l-table_words.false), lt-ltb _ _ c.if-l-counts-6.true)

pub returns : goal.returns
unfolding short_buffer
returns c = simp (le-ltb _ _ c.if-l-counts.false, le-ltb _ _ c.if-l-counts-2.false, le-ltb _ _ c.if-l-counts-3.false, le-ltb _ _ c.if-l-counts-4.false, le-ltb _ _ c.if-l-counts-5.false, le-ltb _ _ (rw c.table_words.ensures at c.if-l-table_words.false), le-ltb _ _ c.if-l-counts-6.false)
