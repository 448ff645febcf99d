use Prim.Native.Nat.{◌+◌}
use native.Mathlib.Omega.{arith}
use mathlib.Core.Path.{◌≡◌}
use borrow.Author.Rules.{rules}
use borrow.Author.Tests.{eqb-true}
use Rattle.node_truth.specs.BlockLaws.{below_none, below_more}
use Rattle.node_truth.proofs.block_below.Goals as goal
use Rattle.node_truth.proofs.block_below.Goals.{then-operands-i, else-operands-i}

pub loop-i-init : goal.loop-i-init
loop-i-init c = ((λ e. below_none c.args.operands.now c.args.first c.args.k), search rules, search rules)

pub loop-i-preserved : goal.loop-i-preserved
loop-i-preserved c = (elim c.if-operands-i.branch [ then-operands-i p ↦ rw p.x-is (λ e. absurd (omega arith)) | else-operands-i p ↦ rw p.x-is (λ e. below_more c.args.operands.now c.args.first c.args.k c.loop-i.i (c.loop-i.invariant.0 e) (omega (arith, p.if-operands-i.false))) ], search rules, search rules)

pub returns : goal.returns
returns c = λ e. let q : c.loop-i.i ≡ c.args.first + 16 = omega arith in rw q at (c.loop-i.invariant.0 (eqb-true _ _ e))
