-- Laws of tests made one after the other, and of the limits.
-- Assumes nothing.
use Rattle.std.specs.Prelude.{◌≡◌, refl, Bool, true, false, cond, ltb, Err}
use Rattle.std.proofs.Common.{ltb-false, le-ltb}
use Rattle.theory.specs.Limits.{limits_of, Limited}
use Rattle.theory.specs.Refusals.{not_both}
use Rattle.theory.specs.declared.Counts.{Counts}
use Rattle.theory.specs.declared.Refusal.{Refusal}
use Rattle.theory.specs.Admission.{Admission, admitted}

-- a test was passed, and so were those after it
pub passed : (x : Bool) (r : Refusal) (rest : Admission) → cond x (Err r) rest ≡ admitted → (x ≡ false) × (rest ≡ admitted)
passed true r rest e = absurd (not_both r e)
passed false r rest e = (refl, e)

pub within_limits : (t : Counts) → limits_of t ≡ admitted → Limited t
unfolding limits_of
within_limits t e =
    let a = passed (ltb 65536 t.atoms) _ _ e in
    let b = passed (ltb 262144 t.nodes) _ _ a.1 in
    let c = passed (ltb 1048576 t.operands) _ _ b.1 in
    let d = passed (ltb 262144 t.roots) _ _ c.1 in
    record { atoms = ltb-false _ _ a.0; nodes = ltb-false _ _ b.0; operands = ltb-false _ _ c.0; roots = ltb-false _ _ d.0 }

pub limited_admitted : (t : Counts) → Limited t → limits_of t ≡ admitted
unfolding limits_of
limited_admitted t l = simp (le-ltb 65536 t.atoms l.atoms, le-ltb 262144 t.nodes l.nodes, le-ltb 1048576 t.operands l.operands, le-ltb 262144 t.roots l.roots)
