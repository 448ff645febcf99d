-- What Ferraris's definition says of a candidate: a stable model, a model that is not stable, such a model with its lowest atom that can be taken out alone, or no model.
-- Assumes nothing.
use Rattle.std.specs.Prelude.{ℕ, ◌≡◌, true, false, List}
use Rattle.formula.specs.Formula.{Formula, of_list}
use Rattle.formula.specs.Satisfaction.{Interpretation, all}
use Rattle.formula.specs.Stable.{Stable}
use Rattle.formula.specs.Removable.{LowestRemovable}

pub data Standing : Type 0 where
  stable unstable no_model : Standing
  unstable_by : ℕ → Standing

abbrev pub Stands : Standing → Interpretation → List Formula → Type 0
Stands stable I roots = Stable I (of_list roots)
Stands unstable I roots = (all I (of_list roots) ≡ true) × (Stable I (of_list roots) → ⊥)
Stands (unstable_by a) I roots = (all I (of_list roots) ≡ true) × (Stable I (of_list roots) → ⊥) × LowestRemovable I roots a
Stands no_model I roots = all I (of_list roots) ≡ false
