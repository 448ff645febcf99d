use mathlib.Core.Path.{refl}
use native.Mathlib.Omega.{arith}
use lib.ListN.{take}
use Rattle.ranks.specs.OrderLaws.{check_long, check_high, check_order, filled-front, filled_back}
use Rattle.ranks.proofs.rank_check.Goals.{then-ranks-counts-via-then-ranks-counts, then-ranks-counts-via-else-ranks-counts+then-not-all_below}
use Rattle.ranks.proofs.rank_check.Goals as goal

pub returns-then-ranks-counts : goal.returns-then-ranks-counts
returns-then-ranks-counts c =
    record {
      value =
          elim c.then-ranks-counts.branch [
            | then-ranks-counts-via-then-ranks-counts w ↦ check_long _ _ _ _ _ _ w.if-ranks-counts.true
            | then-ranks-counts-via-else-ranks-counts+then-not-all_below w ↦ check_high _ _ _ _ _ _ _ w.if-ranks-counts.false w.all_below.ensures w.if-not-all_below.true
          ];
      area_unchanged = refl;
    }

pub returns : goal.returns
returns c =
    let front = filled-front c.args.counts c.args.nodes.now c.args.operands.now (take c.args.v c.args.area.now) c.args.roots.now c.args.ranks.now c.args.area.now _ c.args.v (omega (arith, c.requires.1)) c.fill_highest.ensures in
    record {
      value = check_order c.args.counts c.args.nodes.now c.args.operands.now (take c.args.v c.args.area.now) c.args.roots.now c.args.ranks.now _ c.args.v _ _ c.requires.2 c.requires.3 c.if-ranks-counts.false c.all_below.ensures c.if-not-all_below.false (filled_back c.args.counts c.args.nodes.now c.args.operands.now (take c.args.v c.args.area.now) c.args.roots.now c.args.ranks.now c.args.area.now _ c.args.v (omega (arith, c.requires.1)) c.fill_highest.ensures) (rw front at c.rank_order.ensures);
      area_unchanged = front;
    }
