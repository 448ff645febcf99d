use mathlib.Core.Path.{◌≡◌}
use Prim.Native.Nat.{◌+◌, ◌-◌, ◌≤◌}
use Rattle.theory.specs.Node.{span}
use Rattle.theory.specs.Admission.{all_below}
use Rattle.theory.proofs.all_below.Given as goal

abbrev pub invariant-loop-i : goal.invariant-loop-i
invariant-loop-i l = (l.i ≤ l.end) × (l.end ≡ l.start + l.count) × (all_below l.k (span l.operands l.start l.count) ≡ all_below l.k (span l.operands l.i (l.end - l.i)))

abbrev pub decreases-loop-i : goal.decreases-loop-i
decreases-loop-i l = l.end - l.i
