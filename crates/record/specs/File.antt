-- A theory file: what it holds, or the refusal it gives.
-- Assumes nothing.
use Rattle.std.specs.Prelude.{ℕ, zero, suc, cond, List, eqb, length, Result, Ok, Err}
use Rattle.theory.specs.declared.Refusal.{Refusal}
use Rattle.theory.specs.declared.Refusal.TheVariants.{BadKind}
use Rattle.record.specs.Stage.{at_start}
use Rattle.record.specs.Record.{judged}
use Rattle.record.specs.Contents.{Contents, nothing, joined, of_next}
use Rattle.record.specs.declared.Stage.TheVariants.{Start}
use Rattle.record.specs.declared.Cursor.{Cursor}
use Rattle.record.specs.declared.Summary.{Summary}

pub data File : Type 0 where
  sound : Summary → Contents → File
  refused : Refusal → File

abbrev pub summary : Cursor → Summary
summary c = record { counts = c.counts; candidates = c.candidates; first = c.first }

-- a file without records is refused
unfoldable pub ended : Cursor → Contents → File
ended c t = cond (at_start c.stage) (refused (BadKind c.records)) (sound (summary c) t)

-- at most so many records from the cursor on, t read before it
unfoldable pub read_from : List ℕ → Cursor → Contents → ℕ → File
read_from file c t zero = ended c t
read_from file c t (suc n) =
    cond (eqb c.at (length file)) (ended c t)
    (elim (judged file c) [ Ok next ↦ read_from file next (joined t (of_next file c)) n | Err r ↦ refused r ])

abbrev pub start : Cursor
start =
    record {
      at = 0;
      records = 0;
      stage = Start;
      counts = record { stamp = 0; atoms = 0; nodes = 0; operands = 0; roots = 0 };
      candidates = 0;
      first = 0;
    }

-- a file has fewer records than bytes
unfoldable pub theory_file : List ℕ → File
theory_file file = read_from file start nothing (length file)

-- what `judge` answers
unfoldable pub verdict : File → Result Summary Refusal
verdict (sound s t) = Ok s
verdict (refused r) = Err r
