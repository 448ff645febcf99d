use Prim.Native.Nat.{◌-◌, ◌≤◌}
use mathlib.Core.Path.{◌≡◌}
use Rattle.theory.specs.Node.{span}
use Rattle.kept.specs.Seen.{group_seen}
use Rattle.node_truth.specs.InWords.{true_in}
use Rattle.node_truth.proofs.skip_blocks.Given as goal

abbrev pub invariant-loop-i : goal.invariant-loop-i
invariant-loop-i l = (l.start ≤ l.i) × (l.i ≤ l.end) × (group_seen l.k (true_in l.kept) l.decisive (span l.operands l.start (l.end - l.start)) ≡ group_seen l.k (true_in l.kept) l.decisive (span l.operands l.i (l.end - l.i)))

abbrev pub decreases-loop-i : goal.decreases-loop-i
decreases-loop-i l = l.end - l.i
