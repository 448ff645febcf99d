use Prim.Native.Nat.{◌+◌}
use native.Mathlib.Omega.{arith}
use mathlib.Core.Path.{◌≡◌}
use borrow.Author.Rules.{rules}
use borrow.Author.Tests.{eqb-true}
use Rattle.node_truth.specs.BlockLaws.{are_none, block_more}
use Rattle.node_truth.proofs.block_are.Goals as goal
use Rattle.node_truth.proofs.block_are.Goals.{then-kept-operands, else-kept-operands}

pub loop-i-init : goal.loop-i-init
loop-i-init c = ((λ e. are_none c.args.operands.now c.args.first c.args.kept.now c.args.t), search rules, search rules)

pub offset_bounds-kept-operands : goal.offset_bounds-kept-operands
offset_bounds-kept-operands c = omega (arith, c.requires.1 c.loop-i.i c.loop-i.invariant.1 c.loop-i-test.true)

pub bounds-kept-operands : goal.bounds-kept-operands
bounds-kept-operands c = omega (arith, c.requires.1 c.loop-i.i c.loop-i.invariant.1 c.loop-i-test.true)

pub loop-i-preserved : goal.loop-i-preserved
loop-i-preserved c = (
  elim c.if-kept-operands.branch [
    | then-kept-operands p ↦ rw p.x-is (λ e. absurd (omega arith))
    | else-kept-operands p ↦ rw p.x-is (λ e. block_more c.args.operands.now c.args.first c.args.kept.now c.args.t c.loop-i.i (c.loop-i.invariant.0 e) p.if-kept-operands.false)
  ],
  search rules,
  search rules,
)

pub returns : goal.returns
returns c = λ e. let q : c.loop-i.i ≡ c.args.first + 16 = omega arith in rw q at (c.loop-i.invariant.0 (eqb-true _ _ e))
