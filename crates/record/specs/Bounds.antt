-- Bounds that the cursor keeps in a file of so many bytes: no count leaves its range.
-- Assumes nothing.
use Rattle.std.specs.Prelude.{ℕ, ◌*◌, ◌≤◌}
use Rattle.theory.specs.Limits.{Limited}
use Rattle.record.specs.declared.Cursor.{Cursor}

pub record Within (size : ℕ) (c : Cursor) : Type 0 where
  pub at : c.at ≤ size
  pub records : 2 * c.records ≤ c.at
  pub candidates : c.candidates ≤ c.records
  pub limited : Limited c.counts
