use mathlib.Core.Path.{◌≡◌}
use mathlib.Core.List.{◌++◌}
use lib.ListN.{length, take, drop}
use Rattle.ranks.specs.Highest.{highest_before}
use Rattle.ranks.proofs.fill_highest.Given as goal

abbrev pub invariant-loop-k : goal.invariant-loop-k
invariant-loop-k l = (length l.area ≡ length l.initial.area) × (take l.v l.area ≡ take l.v l.initial.area) × (drop l.v l.area ≡ highest_before l.counts l.nodes l.operands l.ranks l.k ++ drop l.k (drop l.v l.initial.area))
