-- Interpretations, and the formulas that they satisfy.
-- Assumes nothing.
use Rattle.std.specs.Prelude.{ℕ, Bool, true, false, not, ◌&&◌, ◌||◌}
use Rattle.formula.specs.Formula.{Formula, Formulas, atom, falsum, implies, conj, disj, nil, cons}

-- which atoms are true
abbrev pub Interpretation : Type 0
Interpretation = ℕ → Bool

unfoldable mutual
  pub sat : Interpretation → Formula → Bool
  sat I (atom n) = I n
  sat I falsum = false
  sat I (implies f g) = not (sat I f) || sat I g
  sat I (conj fs) = all I fs
  sat I (disj fs) = any I fs

  pub all : Interpretation → Formulas → Bool
  all I nil = true
  all I (cons f fs) = sat I f && all I fs

  pub any : Interpretation → Formulas → Bool
  any I nil = false
  any I (cons f fs) = sat I f || any I fs
