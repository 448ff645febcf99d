-- An atom that can be taken out of a set alone: what is left satisfies the set's reduct.
-- Assumes nothing.
use Rattle.std.specs.Prelude.{ℕ, ◌<◌, ◌≡◌, true, not, ◌&&◌, List, eqb}
use Rattle.formula.specs.Formula.{Formula, of_list}
use Rattle.formula.specs.Satisfaction.{Interpretation, all}
use Rattle.formula.specs.Reduct.{reducts}

-- I without the atom a
unfoldable pub without : Interpretation → ℕ → Interpretation
without I a b = I b && not (eqb b a)

-- I without a satisfies the reduct of the roots under I
abbrev pub Removable : Interpretation → List Formula → ℕ → Type 0
Removable I roots a = all (without I a) (reducts I (of_list roots)) ≡ true

-- a is an atom of I that can be taken out, and no lower atom of I can
pub record LowestRemovable (I : Interpretation) (roots : List Formula) (a : ℕ) : Type 0 where
  pub present : I a ≡ true
  pub removable : Removable I roots a
  pub before : (b : ℕ) → b < a → I b ≡ true → Removable I roots b → ⊥
