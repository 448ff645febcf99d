-- Stable models (Ferraris 2005).
-- Assumes nothing.
use Rattle.std.specs.Prelude.{ℕ, ◌≡◌, true, false}
use Rattle.formula.specs.Formula.{Formulas}
use Rattle.formula.specs.Satisfaction.{Interpretation, all}
use Rattle.formula.specs.Reduct.{reducts}

-- J is a proper subset of I: within it, and an atom of I is lost
pub record ProperSubset (J I : Interpretation) : Type 0 where
  pub within : (a : ℕ) → J a ≡ true → I a ≡ true
  pub lost : ℕ
  pub had : I lost ≡ true
  pub hasn't : J lost ≡ false

-- I satisfies every root, and no proper subset of it satisfies the reduct
pub record Stable (I : Interpretation) (roots : Formulas) : Type 0 where
  pub model : all I roots ≡ true
  pub minimal : (J : Interpretation) → ProperSubset J I → all J (reducts I roots) ≡ true → ⊥
