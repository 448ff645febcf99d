-- The formulas that produce an atom under an interpretation: its head alone, or its head from a body that is satisfied.
-- Assumes nothing.
use Rattle.std.specs.Prelude.{ℕ, ◌≡◌, ◌⊎◌, true}
use Rattle.formula.specs.Formula.{Formula, implies}
use Rattle.formula.specs.Satisfaction.{Interpretation, sat}
use Rattle.formula.specs.Head.{Head, head_atom, head_formula}

-- a head of the atom: the atom, or a choice of it
abbrev pub HeadOf : ℕ → Formula → Type 0
HeadOf a f = (h : Head) × (head_atom h ≡ a) × (f ≡ head_formula h)

-- a rule with such a head, whose body I satisfies
pub record SatisfiedRule (I : Interpretation) (a : ℕ) (f : Formula) : Type 0 where
  pub body : Formula
  pub head : Formula
  pub parts : f ≡ implies body head
  pub head_of : HeadOf a head
  pub satisfied : sat I body ≡ true

abbrev pub Produces : Interpretation → ℕ → Formula → Type 0
Produces I a f = HeadOf a f ⊎ SatisfiedRule I a f
