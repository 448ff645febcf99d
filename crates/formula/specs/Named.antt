-- What a verdict names: the first root that the candidate falsifies, the lowest of its atoms that no root produces.
-- Assumes nothing.
use Rattle.std.specs.Prelude.{ℕ, ◌<◌, ◌≡◌, true, false, List, length, get_or}
use Rattle.base.specs.Each.{Each}
use Rattle.formula.specs.Formula.{Formula, falsum}
use Rattle.formula.specs.Satisfaction.{Interpretation, sat}
use Rattle.formula.specs.Producer.{Produces}

-- of the roots, the one at position r is falsified, those before it are satisfied
pub record FirstFalsified (I : Interpretation) (roots : List Formula) (r : ℕ) : Type 0 where
  pub within : r < length roots
  pub falsified : sat I (get_or roots r falsum) ≡ false
  pub before : (q : ℕ) → q < r → sat I (get_or roots q falsum) ≡ true

-- no root produces the atom: it has no producer without body and none with a body that I satisfies
abbrev pub Unproduced : Interpretation → List Formula → ℕ → Type 0
Unproduced I roots a = Each (λ f. Produces I a f → ⊥) roots

-- a is an atom of I that no root produces, and those of I below it are produced
pub record LowestUnproduced (I : Interpretation) (roots : List Formula) (a : ℕ) : Type 0 where
  pub present : I a ≡ true
  pub unproduced : Unproduced I roots a
  pub before : (b : ℕ) → b < a → I b ≡ true → Unproduced I roots b → ⊥
