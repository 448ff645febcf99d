use Prim.Native.Nat.{◌*◌, ◌≤◌, min}
use mathlib.Core.Path.{◌≡◌}
use lib.ListN.{length}
use Rattle.difference.specs.Found.{Found}
use Rattle.difference.proofs.all_changes.Given as goal

abbrev pub invariant-loop-j : goal.invariant-loop-j
invariant-loop-j l = Found l.at l.kept l.candidate (2 * min l.j l.pairs) l.marks l.d × (l.d.first ≤ l.pairs) × (length l.marks ≡ length l.initial.marks)
