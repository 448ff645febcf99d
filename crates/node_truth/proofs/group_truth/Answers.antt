use borrow.Author.Rules.{rules}
use native.Mathlib.Omega.{arith}
use Prim.Native.Nat.{◌+◌}
use native.Mathlib.Nat.{add-sub_cancel_left}
use Rattle.node_truth.specs.InWords.{true_in}
use Rattle.node_truth.specs.Turns.{group_stray, group_decided, group_more, group_done}
use Rattle.node_truth.proofs.group_truth.Goals as goal

pub loop-i-init : goal.loop-i-init
loop-i-init c = (search rules, search rules, rw add-sub_cancel_left)

pub returns-then-o-k : goal.returns-then-o-k
returns-then-o-k c = group_stray c.args.operands.now c.args.k (true_in c.args.kept.now) c.args.decisive c.loop-i.i (c.args.start + c.args.count) _ c.loop-i.invariant.2 _ c.word-o.ensures.value c.loop-i-test.true (omega (arith, c.requires)) c.if-o-k.true

pub returns-then-holds-decisive : goal.returns-then-holds-decisive
returns-then-holds-decisive c = group_decided c.args.operands.now c.args.k (true_in c.args.kept.now) c.args.decisive c.loop-i.i (c.args.start + c.args.count) _ c.loop-i.invariant.2 _ _ c.word-o.ensures.value c.loop-i-test.true (omega (arith, c.requires)) c.if-o-k.false c.holds.ensures c.if-holds-decisive.true

pub loop-i-preserved : goal.loop-i-preserved
loop-i-preserved c = (search rules, search rules, group_more c.args.operands.now c.args.k (true_in c.args.kept.now) c.args.decisive c.loop-i.i (c.args.start + c.args.count) _ c.loop-i.invariant.2 _ _ c.word-o.ensures.value c.loop-i-test.true (omega (arith, c.requires)) c.if-o-k.false c.holds.ensures c.if-holds-decisive.false)

pub returns : goal.returns
returns c = group_done c.args.operands.now c.args.k (true_in c.args.kept.now) c.args.decisive c.loop-i.i (c.args.start + c.args.count) _ c.loop-i.invariant.2 c.loop-i-test.false
