use native.Mathlib.Omega.{arith}
use Rattle.tests.specs.TestsLaws.{short_here, long_here, all_long}
use Rattle.tests.proofs.short_buffer.Goals as goal

pub returns-then-l-counts : goal.returns-then-l-counts
returns-then-l-counts c = short_here _ _ c.if-l-counts.true

pub returns-then-l-counts-2 : goal.returns-then-l-counts-2
returns-then-l-counts-2 c = long_here _ _ _ c.if-l-counts.false (short_here _ _ c.if-l-counts-2.true)

pub returns-then-l-counts-3 : goal.returns-then-l-counts-3
returns-then-l-counts-3 c = long_here _ _ _ c.if-l-counts.false (long_here _ _ _ c.if-l-counts-2.false (short_here _ _ c.if-l-counts-3.true))

pub returns-then-l-counts-4 : goal.returns-then-l-counts-4
returns-then-l-counts-4 c = long_here _ _ _ c.if-l-counts.false (long_here _ _ _ c.if-l-counts-2.false (long_here _ _ _ c.if-l-counts-3.false (short_here _ _ c.if-l-counts-4.true)))

pub returns-then-l-counts-5 : goal.returns-then-l-counts-5
returns-then-l-counts-5 c = long_here _ _ _ c.if-l-counts.false (long_here _ _ _ c.if-l-counts-2.false (long_here _ _ _ c.if-l-counts-3.false (long_here _ _ _ c.if-l-counts-4.false (short_here _ _ c.if-l-counts-5.true))))

pub returns-then-l-table_words : goal.returns-then-l-table_words
returns-then-l-table_words c = long_here _ _ _ c.if-l-counts.false (long_here _ _ _ c.if-l-counts-2.false (long_here _ _ _ c.if-l-counts-3.false (long_here _ _ _ c.if-l-counts-4.false (long_here _ _ _ c.if-l-counts-5.false (short_here _ _ (rw c.table_words.ensures at c.if-l-table_words.true))))))

pub overflow_mul-counts-4 : goal.overflow_mul-counts-4
overflow_mul-counts-4 c = omega (arith, c.requires.atoms, c.requires.nodes, c.requires.operands, c.requires.roots)

pub overflow_add-counts-3 : goal.overflow_add-counts-3
overflow_add-counts-3 c = omega (arith, c.requires.atoms, c.requires.nodes, c.requires.operands, c.requires.roots)

pub overflow_add-counts-4 : goal.overflow_add-counts-4
overflow_add-counts-4 c = omega (arith, c.requires.atoms, c.requires.nodes, c.requires.operands, c.requires.roots)

pub returns-then-l-counts-6 : goal.returns-then-l-counts-6
returns-then-l-counts-6 c = long_here _ _ _ c.if-l-counts.false (long_here _ _ _ c.if-l-counts-2.false (long_here _ _ _ c.if-l-counts-3.false (long_here _ _ _ c.if-l-counts-4.false (long_here _ _ _ c.if-l-counts-5.false (long_here _ _ _ (rw c.table_words.ensures at c.if-l-table_words.false) (short_here _ _ c.if-l-counts-6.true))))))

pub returns : goal.returns
returns c = long_here _ _ _ c.if-l-counts.false (long_here _ _ _ c.if-l-counts-2.false (long_here _ _ _ c.if-l-counts-3.false (long_here _ _ _ c.if-l-counts-4.false (long_here _ _ _ c.if-l-counts-5.false (long_here _ _ _ (rw c.table_words.ensures at c.if-l-table_words.false) (long_here _ _ _ c.if-l-counts-6.false all_long))))))
