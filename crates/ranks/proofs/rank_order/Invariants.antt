use mathlib.Core.Path.{◌≡◌}
use Prim.Native.Nat.{◌-◌}
use lib.ListN.{take, drop}
use Rattle.theory.specs.Admission.{first_refusal}
use Rattle.ranks.specs.RankCheck.{order_at, order_by}
use Rattle.ranks.proofs.rank_order.Given as goal

abbrev pub invariant-loop-i : goal.invariant-loop-i
invariant-loop-i l = order_by l.counts l.nodes l.operands (take l.v l.area) l.roots (drop l.v l.area) l.ranks ≡ first_refusal (order_at l.nodes l.operands (take l.v l.area) l.roots (drop l.v l.area) l.ranks) l.i (l.counts.roots - l.i)
