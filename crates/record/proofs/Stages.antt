-- The stage by its tests.
-- Assumes nothing.
use mathlib.Core.Path.{◌≡◌, refl}
use mathlib.Core.Bool.{true, false, false≢true}
use Rattle.record.specs.Stage.{at_start, at_nodes}
use Rattle.record.specs.declared.Stage.{Stage}
use Rattle.record.specs.declared.Stage.TheVariants.{Start, Nodes, Roots, Candidates}

pub is_nodes : (s : Stage) → at_nodes s ≡ true → s ≡ Nodes
is_nodes Start e = absurd (false≢true e)
is_nodes Nodes e = refl
is_nodes Roots e = absurd (false≢true e)
is_nodes Candidates e = absurd (false≢true e)

pub no_start : (s : Stage) → (s ≡ Start → ⊥) → at_start s ≡ false
no_start Start n = absurd (n refl)
no_start Nodes n = refl
no_start Roots n = refl
no_start Candidates n = refl
