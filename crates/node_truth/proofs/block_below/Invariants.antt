use Prim.Native.Nat.{◌≤◌}
use mathlib.Core.Path.{◌≡◌}
use Rattle.node_truth.specs.Blocks.{AllBelow}
use Rattle.node_truth.proofs.block_below.Given as goal

abbrev pub invariant-loop-i : goal.invariant-loop-i
invariant-loop-i l = (l.x ≡ 0 → AllBelow l.operands l.k l.first l.i) × (l.first ≤ l.i) × (l.i ≤ l.end)
