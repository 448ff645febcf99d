use Prim.Native.Nat.{◌*◌, ◌≤◌}
use mathlib.Core.Path.{◌≡◌}
use lib.ListN.{length}
use Rattle.difference.specs.Found.{Found}
use Rattle.difference.proofs.pairs_changes.Given as goal

abbrev pub invariant-loop-j : goal.invariant-loop-j
invariant-loop-j l = Found l.at l.kept l.candidate (2 * l.j) l.marks l.d × (l.d.first ≤ l.initial.d.first) × (length l.marks ≡ length l.initial.marks) × (l.j ≤ l.end)
