-- Refusals whose place is bounded, in tests made one after the other.
-- Assumes nothing.
use Rattle.std.specs.Prelude.{Ok, Err}
use Prim.Native.Nat.{ℕ, zero, suc, ◌+◌, ◌<◌}
use native.Mathlib.Omega.{arith}
use mathlib.Core.Path.{◌≡◌, refl}
use mathlib.Core.Bool.{Bool, cond}
use lib.Dec.{ltb}
use Rattle.theory.specs.Admission.{or_else, first_refusal, Admission, admitted}
use Rattle.theory.specs.Only.{Only, only_admitted, only_refused, only_either}
use Rattle.theory.specs.Limits.{limits_of}
use Rattle.theory.specs.Refusal.{told}
use Rattle.theory.specs.declared.Counts.{Counts}
use Rattle.theory.specs.declared.Refusal.{Refusal}
use Rattle.theory.specs.declared.Refusal.TheVariants.{PastLimit}
use Rattle.answers.specs.Fits.{RefusalFits}

-- none but what fits its word
abbrev pub Fitting : Admission → Type 0
Fitting = Only RefusalFits

pub fitting_admitted : Fitting admitted
fitting_admitted = only_admitted RefusalFits

pub fitting_refused : (r : Refusal) → RefusalFits r → Fitting (Err r)
fitting_refused r f = only_refused RefusalFits r f

-- the second matters only where the first admits
pub fitting_then : (a b : Admission) → Fitting a → (a ≡ admitted → Fitting b) → Fitting (or_else a b)
fitting_then (Ok u) b p q = q refl
fitting_then (Err r) b p q = p

-- a test: x, or else what comes after it
pub fitting_test : (b : Bool) (x : Refusal) (rest : Admission) → RefusalFits x → Fitting rest → Fitting (cond b (Err x) rest)
fitting_test b x rest f h = only_either RefusalFits b (Err x) rest (fitting_refused x f) h

pub fitting_passed : (b : Bool) (x : Refusal) → RefusalFits x → Fitting (cond b admitted (Err x))
fitting_passed b x f = only_either RefusalFits b admitted (Err x) fitting_admitted (fitting_refused x f)

-- each of those from i on
pub fitting_first : (f : ℕ → Admission) (i n : ℕ) → ((k : ℕ) → k < i + n → Fitting (f k)) → Fitting (first_refusal f i n)
unfolding first_refusal
fitting_first f i zero h = fitting_admitted
fitting_first f i (suc n) h = fitting_then (f i) (first_refusal f (i + 1) n) (h i (omega arith)) (λ e. fitting_first f (i + 1) n (λ k l. h k (omega arith)))

pub fitting_limits : (t : Counts) → Fitting (limits_of t)
unfolding limits_of told
fitting_limits t =
    let at : (place : ℕ) → place < 4294967296 → RefusalFits (PastLimit place) = λ place l. record { place = l; body = omega arith } in
    fitting_test (ltb 65536 t.atoms) (PastLimit 0) _ (at 0 (omega arith))
    (fitting_test (ltb 262144 t.nodes) (PastLimit 1) _ (at 1 (omega arith))
    (fitting_test (ltb 1048576 t.operands) (PastLimit 2) _ (at 2 (omega arith))
    (fitting_test (ltb 262144 t.roots) (PastLimit 3) admitted (at 3 (omega arith)) fitting_admitted)))
