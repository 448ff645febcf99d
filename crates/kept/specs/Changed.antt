-- How many atoms differ between two candidates.
-- Assumes nothing.
use Rattle.std.specs.Prelude.{ℕ}
use Rattle.base.specs.Places.{count}
use Rattle.formula.specs.Satisfaction.{Interpretation}
use Rattle.words.specs.Changed.{unlike}
use Rattle.kept.specs.Tables.{Tables, atom_count}

unfoldable pub changed_atoms : Tables → Interpretation → Interpretation → ℕ
changed_atoms T I J = count (λ a. unlike (I a) (J a)) 0 (atom_count T)
