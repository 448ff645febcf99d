use native.Mathlib.Omega.{arith}
use native.Mathlib.Nat.{sub-zero}
use mathlib.Core.Path.{sym, ◌∙◌}
use lib.Seq.{length-take-le}
use Rattle.base.specs.Raised.{raised}
use Rattle.theory.specs.Refusals.{first_stop, first_go, first_done}
use Rattle.ranks.specs.RankCheck.{order_by}
use Rattle.ranks.specs.OrderLaws.{order_seen}
use Rattle.ranks.specs.MadeIn.{made_in}
use Rattle.ranks.proofs.rank_order.Goals as goal

pub loop-i-init : goal.loop-i-init
unfolding order_by
loop-i-init c = rw sub-zero

pub slice_bounds-produce-end : goal.slice_bounds-produce-end
slice_bounds-produce-end c = sym (length-take-le c.args.v c.args.area.now (omega (arith, c.requires.1)))

pub produce-made-requires : goal.produce-made-requires
produce-made-requires c = (rw c.word-root.ensures.value (c.requires.4.in_nodes _ c.loop-i-test.true), rw (length-take-le c.args.v c.args.area.now (omega (arith, c.requires.1))) c.requires.0, c.requires.3)

pub produced_order-requires : goal.produced_order-requires
produced_order-requires c = (c.requires.0, c.requires.1, c.requires.2, made_in _ _ _ _ c.requires.3 _ (rw c.word-root.ensures.value (c.requires.4.in_nodes _ c.loop-i-test.true)) _ c.produce-made.ensures)

pub returns-in_err-produced_order : goal.returns-in_err-produced_order
returns-in_err-produced_order c = raised _ _ c.from_residual.ensures.1 ∙ first_stop _ _ _ _ c.loop-i.invariant _ c.loop-i-test.true (order_seen _ _ _ _ _ _ _ _ _ _ c.word-root.ensures.value c.produce-made.ensures c.produced_order.ensures ∙ c.in_err-produced_order.was)

pub loop-i-preserved : goal.loop-i-preserved
loop-i-preserved c = first_go _ _ _ _ c.loop-i.invariant c.loop-i-test.true (order_seen _ _ _ _ _ _ _ _ _ _ c.word-root.ensures.value c.produce-made.ensures c.produced_order.ensures ∙ c.in_ok-produced_order.was)

pub returns : goal.returns
returns c = first_done _ _ _ _ c.loop-i.invariant c.loop-i-test.false
