-- Supported models: every atom of the model has a producer, without body or with a true one.
-- Assumes nothing.
use Rattle.std.specs.Prelude.{ℕ, ◌≡◌, Bool, true, false, ◌&&◌, ◌||◌, List, [], ◌∷◌, eqb}
use Rattle.formula.specs.Satisfaction.{Interpretation, sat, all}
use Rattle.formula.specs.Head.{head_atom}
use Rattle.formula.specs.Root.{Root, constraint, denial, fact, rule, theory}

-- the root is such a producer of a
unfoldable pub produces : Interpretation → ℕ → Root → Bool
produces I a constraint = false
produces I a (denial b) = false
produces I a (fact h) = eqb (head_atom h) a
produces I a (rule b h) = eqb (head_atom h) a && sat I b

unfoldable pub supported : Interpretation → ℕ → List Root → Bool
supported I a [] = false
supported I a (x ∷ xs) = produces I a x || supported I a xs

pub record SupportedModel (I : Interpretation) (xs : List Root) : Type 0 where
  pub model : all I (theory xs) ≡ true
  pub support : (a : ℕ) → I a ≡ true → supported I a xs ≡ true
