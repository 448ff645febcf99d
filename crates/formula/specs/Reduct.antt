-- The reduct (Ferraris 2005): each largest subformula that I makes false becomes False.
-- Assumes nothing.
use Rattle.std.specs.Prelude.{cond}
use Rattle.formula.specs.Formula.{Formula, Formulas, atom, falsum, implies, conj, disj, nil, cons}
use Rattle.formula.specs.Satisfaction.{Interpretation, sat}

unfoldable mutual
  pub reduct : Interpretation → Formula → Formula
  reduct I (atom n) = cond (sat I (atom n)) (atom n) falsum
  reduct I falsum = falsum
  reduct I (implies f g) = cond (sat I (implies f g)) (implies (reduct I f) (reduct I g)) falsum
  reduct I (conj fs) = cond (sat I (conj fs)) (conj (reducts I fs)) falsum
  reduct I (disj fs) = cond (sat I (disj fs)) (disj (reducts I fs)) falsum

  pub reducts : Interpretation → Formulas → Formulas
  reducts I nil = nil
  reducts I (cons f fs) = cons (reduct I f) (reducts I fs)
