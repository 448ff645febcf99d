use Prim.Native.Nat.{◌+◌, ◌≤◌}
use mathlib.Core.Path.{◌≡◌}
use Rattle.difference.specs.Marks.{SameFrom}
use Rattle.difference.proofs.same_block.Given as goal

abbrev pub invariant-loop-j : goal.invariant-loop-j
invariant-loop-j l = (l.d ≡ 0 → SameFrom l.at l.kept l.candidate l.first l.j) × (l.first ≤ l.j) × (l.j ≤ l.first + 16)
