use mathlib.Core.Path.{◌≡◌}
use Prim.Native.Nat.{◌+◌, ◌-◌, ◌≤◌, ◌<◌, max}
use Rattle.compile.specs.Greatest.{greatest_of}
use Rattle.compile.proofs.maximum_operand.Given as goal

abbrev pub invariant-loop-i : goal.invariant-loop-i
invariant-loop-i l = (l.i ≤ l.end) × (l.start ≤ l.i) × (l.end ≡ l.start + l.count) × (l.value < 4294967296) × (greatest_of l.values l.operands l.start l.count ≡ max l.value (greatest_of l.values l.operands l.i (l.end - l.i)))

abbrev pub decreases-loop-i : goal.decreases-loop-i
decreases-loop-i l = l.end - l.i
