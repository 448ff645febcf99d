use Rattle.complete.specs.Search.{next_lacking}
use mathlib.Core.Path.{◌≡◌}
use Prim.Native.Nat.{◌≤◌}
use Rattle.complete.proofs.next_single.Given as goal

abbrev pub invariant-loop-a : goal.invariant-loop-a
invariant-loop-a l = (l.a ≤ l.counts.atoms) × (next_lacking l.counts l.kept l.from ≡ next_lacking l.counts l.kept l.a)
