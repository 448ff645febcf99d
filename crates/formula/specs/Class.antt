-- The class of a formula: Positive, Frozen or Opaque.
-- Assumes nothing.
use Rattle.std.specs.Prelude.{Bool, true, false, cond}
use Rattle.formula.specs.Formula.{Formula, Formulas, atom, falsum, implies, conj, disj, nil, cons}

pub data Class : Type 0 where
  positive frozen opaque : Class

abbrev pub is_falsum : Formula → Bool
is_falsum (atom n) = false
is_falsum falsum = true
is_falsum (implies f g) = false
is_falsum (conj fs) = false
is_falsum (disj fs) = false

-- of two operands: Opaque if one is, else Frozen if both are, else Positive
abbrev pub join : Class → Class → Class
join opaque d = opaque
join frozen d = d
join positive opaque = opaque
join positive frozen = positive
join positive positive = positive

unfoldable mutual
  pub class : Formula → Class
  class (atom n) = positive
  class falsum = frozen
  class (implies f g) = cond (is_falsum g) frozen opaque
  class (conj fs) = classes fs
  class (disj fs) = classes fs

  pub classes : Formulas → Class
  classes nil = frozen
  classes (cons f fs) = join (class f) (classes fs)
