use native.Mathlib.Omega.{arith}
use Prim.Native.Nat.{◌-◌}
use Rattle.ranks.specs.OrderLaws.{order_bare, order_free, order_fine, order_broken}
use Rattle.ranks.proofs.body_order.Goals as goal

pub returns-then-body-eq0 : goal.returns-then-body-eq0
returns-then-body-eq0 c = order_bare _ _ _ _ _ c.if-body-eq0.true

pub returns-then-word-ne1 : goal.returns-then-word-ne1
returns-then-word-ne1 c = order_free c.args.area.now c.args.ranks.now c.args.v c.args.head c.args.body (c.args.body - 1) _ (omega (arith, c.if-body-eq0.false)) (omega (arith, c.if-body-eq0.false, c.requires.0)) c.word.ensures.value c.if-word-ne1.true

pub returns-then-word : goal.returns-then-word
returns-then-word c = order_fine c.args.area.now c.args.ranks.now c.args.v c.args.head c.args.body (c.args.body - 1) _ (omega (arith, c.if-body-eq0.false)) (omega (arith, c.if-body-eq0.false, c.requires.0)) c.word.ensures.value _ _ c.if-word-ne1.false c.word-2.ensures.value c.word-3.ensures.value c.if-word.true

pub returns-else-word : goal.returns-else-word
returns-else-word c = order_broken c.args.area.now c.args.ranks.now c.args.v c.args.head c.args.body (c.args.body - 1) _ (omega (arith, c.if-body-eq0.false)) (omega (arith, c.if-body-eq0.false, c.requires.0)) c.word.ensures.value _ _ c.if-word-ne1.false c.word-2.ensures.value c.word-3.ensures.value c.if-word.false
