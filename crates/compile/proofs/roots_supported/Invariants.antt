use mathlib.Core.Path.{◌≡◌}
use Prim.Native.Nat.{◌-◌, ◌≤◌}
use Rattle.theory.specs.Admission.{first_refusal}
use Rattle.compile.specs.Producers.{supported_at, roots_supported}
use Rattle.compile.proofs.roots_supported.Given as goal

abbrev pub invariant-loop-i : goal.invariant-loop-i
invariant-loop-i l = (l.i ≤ l.n) × (l.n ≡ l.counts.roots) × (roots_supported l.counts l.nodes l.operands l.classes l.roots ≡ first_refusal (supported_at l.nodes l.operands l.classes l.roots) l.i (l.n - l.i))

abbrev pub decreases-loop-i : goal.decreases-loop-i
decreases-loop-i l = l.n - l.i
