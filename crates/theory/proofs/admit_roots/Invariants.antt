use mathlib.Core.Path.{◌≡◌}
use Prim.Native.Nat.{◌-◌, ◌≤◌}
use Rattle.theory.specs.Admission.{first_refusal, root_admission, roots_admission}
use Rattle.theory.proofs.admit_roots.Given as goal

abbrev pub invariant-loop-i : goal.invariant-loop-i
invariant-loop-i l = (l.i ≤ l.n) × (l.n ≡ l.counts.roots) × (roots_admission l.counts l.roots ≡ first_refusal (root_admission l.counts l.roots) l.i (l.n - l.i))

abbrev pub decreases-loop-i : goal.decreases-loop-i
decreases-loop-i l = l.n - l.i
