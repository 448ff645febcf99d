use Rattle.complete.specs.Search.{next_lacking}
use mathlib.Core.Path.{◌≡◌}
use Prim.Native.Nat.{◌-◌, ◌≤◌}
use Rattle.complete.proofs.next_lacking.Given as goal

abbrev pub invariant-loop-a : goal.invariant-loop-a
invariant-loop-a l = (l.a ≤ l.counts.atoms) × (next_lacking l.counts l.kept l.from ≡ next_lacking l.counts l.kept l.a)

abbrev pub decreases-loop-a : goal.decreases-loop-a
decreases-loop-a l = l.counts.atoms - l.a
