use mathlib.Core.Path.{◌≡◌}
use Prim.Native.Nat.{◌+◌, ◌-◌, ◌≤◌}
use Rattle.theory.specs.Node.{span}
use Rattle.kept.specs.Seen.{group_seen}
use Rattle.node_truth.specs.InWords.{true_in}
use Rattle.node_truth.proofs.group_truth.Given as goal

abbrev pub invariant-loop-i : goal.invariant-loop-i
invariant-loop-i l = (l.i ≤ l.end) × (l.end ≡ l.start + l.count) × (group_seen l.k (true_in l.kept) l.decisive (span l.operands l.start l.count) ≡ group_seen l.k (true_in l.kept) l.decisive (span l.operands l.i (l.end - l.i)))
