-- What the second pass may take for granted: it goes over a sound file, and the tables are as long as that file's counts say.
-- Assumes nothing.
use Rattle.std.specs.Prelude.{ℕ, ◌+◌, ◌*◌, ◌<◌, ◌≤◌, ◌≡◌, List, length, Result, Ok, Err}
use Rattle.theory.specs.Limits.{Lent}
use Rattle.record.specs.Mark.{mark_at}
use Rattle.record.specs.Layout.{values_start, value_count}
use Rattle.record.specs.declared.Cursor.{Cursor}
use Rattle.record.specs.declared.Mark.{Mark}
use Rattle.record.specs.declared.Values.{Values}
use Rattle.theory.specs.declared.Refusal.{Refusal}
use Rattle.record.specs.declared.Summary.{Summary}

abbrev pub Fits : Result Summary Refusal → ℕ → ℕ → ℕ → Type 0
Fits (Ok s) n o r = Lent s.counts n o r
Fits (Err x) n o r = ⊥

-- the record at the cursor has this mark and these values, and is whole
pub record Stands (file : List ℕ) (c : Cursor) (mark : Mark) (v : Values) : Type 0 where
  pub marked : mark ≡ mark_at file c.at
  pub begins : v.start ≡ values_start file c.at mark
  pub many : v.count ≡ value_count file c.at mark
  pub whole : v.start + 4 * v.count ≤ length file
  pub small : v.count < 4294967296
