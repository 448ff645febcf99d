-- And and Or of nothing (ticket No. 2): true and false under every interpretation, Frozen, and read the same in every reduct. Or of nothing is not False: an Implies to it is Opaque.
-- Assumes nothing.
use mathlib.Core.Path.{◌≡◌, refl}
use mathlib.Core.Bool.{true, false}
use Rattle.formula.specs.Formula.{Formula, falsum, implies, conj, disj, nil}
use Rattle.formula.specs.Satisfaction.{Interpretation, sat}
use Rattle.formula.specs.Reduct.{reduct}
use Rattle.formula.specs.Class.{frozen, opaque, class}

pub empty_and : (I : Interpretation) → (sat I (conj nil) ≡ true) × (class (conj nil) ≡ frozen) × (reduct I (conj nil) ≡ conj nil)
unfolding sat class reduct
empty_and I = (refl, refl, refl)

pub empty_or : (I : Interpretation) → (sat I (disj nil) ≡ false) × (class (disj nil) ≡ frozen) × (reduct I (disj nil) ≡ falsum)
unfolding sat class reduct
empty_or I = (refl, refl, refl)

pub to_empty_or : (f : Formula) → class (implies f (disj nil)) ≡ opaque
unfolding class
to_empty_or f = refl
