-- The computed test passes exactly the supported models; of a planned theory, exactly the stable models.
-- Assumes nothing.
use Prim.Native.Nat.{ℕ, zero, suc, ◌<◌}
use native.Mathlib.Omega.{arith}
use native.Mathlib.Nat.{not-suc-le-zero}
use mathlib.Core.Path.{◌≡◌, refl}
use mathlib.Core.Logic.{◌↔◌, ⊎_elim}
use mathlib.Core.Bool.{Bool, true, not, ◌||◌}
use mathlib.Core.List.{List}
use Rattle.base.specs.Tests.{both_left, both_right, both, implied, implying, equal_or}
use Rattle.formula.specs.Satisfaction.{Interpretation, all}
use Rattle.formula.specs.Stable.{Stable}
use Rattle.formula.specs.Root.{Root, theory}
use Rattle.formula.specs.Plan.{Planned}
use Rattle.formula.specs.Support.{supported, SupportedModel}
use Rattle.formula.specs.Passes.{Within, below, passes}
use Rattle.formula.proofs.Fages.{fages}

pub below_at : (n : ℕ) (p : ℕ → Bool) → below n p ≡ true → (k : ℕ) → k < n → p k ≡ true
unfolding below
below_at zero p e k h = absurd (not-suc-le-zero h)
below_at (suc n) p e k h =
    ⊎_elim
    (λ i. rw i (both_left _ (below n p) e))
    (λ i. below_at n p (both_right (p n) _ e) k (omega arith))
    (equal_or k n)

pub at_below : (n : ℕ) (p : ℕ → Bool) → ((k : ℕ) → k < n → p k ≡ true) → below n p ≡ true
unfolding below
at_below zero p h = refl
at_below (suc n) p h = both (h n (omega arith)) (at_below n p (λ k l. h k (omega arith)))

module _ (A : ℕ) (I : Interpretation) (xs : List Root) (w : Within A I) where
  pub passes-supported : (passes A I xs ≡ true) ↔ SupportedModel I xs
  unfolding passes
  passes-supported = (
    λ e.
        record {
          model = both_left _ (below A (λ a. not (I a) || supported I a xs)) e;
          support = λ a i. implied (below_at A _ (both_right (all I (theory xs)) _ e) a (w a i)) i;
        },
    λ p. both p.model (at_below A _ (λ a l. implying (I a) _ (p.support a))),
  )

  pub passes_stable : (r : ℕ → ℕ) → Planned r xs → (passes A I xs ≡ true) ↔ Stable I (theory xs)
  passes_stable r f = (
    λ e. (fages r I xs f).0 (passes-supported.0 e),
    λ s. passes-supported.1 ((fages r I xs f).1 s),
  )
