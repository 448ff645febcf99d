use Prim.Native.Nat.{◌≤◌}
use mathlib.Core.Path.{◌≡◌}
use Rattle.node_truth.specs.Blocks.{AllAre}
use Rattle.node_truth.proofs.block_are.Given as goal

abbrev pub invariant-loop-i : goal.invariant-loop-i
invariant-loop-i l = (l.x ≡ 0 → AllAre l.operands l.kept l.t l.first l.i) × (l.first ≤ l.i) × (l.i ≤ l.end)
