-- The highest rank over the atoms reached through Positive And and Or.
-- Assumes nothing.
use Rattle.std.specs.Prelude.{ℕ, max, Bool, true, false, cond}
use Rattle.formula.specs.Formula.{Formula, Formulas, atom, falsum, implies, conj, disj, nil, cons}
use Rattle.formula.specs.Class.{Class, positive, frozen, opaque, class}

abbrev pub is_positive : Class → Bool
is_positive positive = true
is_positive frozen = false
is_positive opaque = false

unfoldable mutual
  pub highest : (ℕ → ℕ) → Formula → ℕ
  highest r (atom n) = r n
  highest r falsum = 0
  highest r (implies f g) = 0
  highest r (conj fs) = cond (is_positive (class (conj fs))) (highests r fs) 0
  highest r (disj fs) = cond (is_positive (class (disj fs))) (highests r fs) 0

  pub highests : (ℕ → ℕ) → Formulas → ℕ
  highests r nil = 0
  highests r (cons f fs) = max (highest r f) (highests r fs)
