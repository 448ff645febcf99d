use native.Mathlib.Omega.{arith}
use mathlib.Core.Path.{refl, ◌∙◌}
use borrow.Author.Rules.{rules}
use Rattle.node_truth.specs.BlockLaws.{group_pass}
use Rattle.node_truth.proofs.skip_blocks.Goals as goal

pub loop-i-init : goal.loop-i-init
loop-i-init c = (search rules, search rules, refl)

pub returns-then-not-undecided : goal.returns-then-not-undecided
returns-then-not-undecided c = c.loop-i.invariant

pub loop-i-preserved : goal.loop-i-preserved
loop-i-preserved c = (search rules, search rules, c.loop-i.invariant.2 ∙ group_pass c.args.operands.now c.args.kept.now c.args.k c.args.decisive c.args.end c.requires.1 16 c.loop-i.i (omega (arith, c.loop-i-test.true)) (c.undecided.ensures c.if-not-undecided.false).0 (c.undecided.ensures c.if-not-undecided.false).1)

pub returns : goal.returns
returns c = c.loop-i.invariant
