use native.Mathlib.Omega.{arith}
use mathlib.Core.Bool.{false≢true}
use borrow.Author.Rules.{rules}
use Rattle.node_truth.proofs.undecided.Goals as goal

pub returns-then-not-block_below : goal.returns-then-not-block_below
returns-then-not-block_below c = λ e. absurd (false≢true e)

pub block_are-requires : goal.block_are-requires
block_are-requires c = (search rules, λ i a b. omega (arith, c.block_below.ensures c.if-not-block_below.false i a b, c.requires.1))

pub returns : goal.returns
returns c = λ e. (c.block_below.ensures c.if-not-block_below.false, c.block_are.ensures e)
