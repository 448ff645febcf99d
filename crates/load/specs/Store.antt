-- The second pass over a sound file: the words of each record put in their place.
-- Assumes nothing.
use Rattle.std.specs.Prelude.{ℕ, zero, suc, ◌+◌, ◌*◌, cond, List, [], ◌++◌, eqb, length, take, drop, Option, None, Some, Ok, Err}
use Rattle.record.specs.Record.{judged}
use Rattle.record.specs.Contents.{of_next}
use Rattle.record.specs.declared.Cursor.{Cursor}
use Rattle.record.specs.declared.Mark.{Mark}
use Rattle.record.specs.declared.Mark.TheVariants.{Theory, Atom, False, Implies, And, Or, Root, Candidate, Unknown}
use Rattle.load.specs.Tables.{Tables}

-- xs with ys from place i on
unfoldable pub placed : List ℕ → ℕ → List ℕ → List ℕ
placed xs i ys = take i xs ++ ys ++ drop (i + length ys) xs

-- the words of a node, or of a record that is none
abbrev pub words_of : Option (List ℕ) → List ℕ
words_of None = []
words_of (Some ws) = ws

-- how many values of a record go into the operand table, and into the list of roots
abbrev pub operand_count : Mark → ℕ → ℕ
operand_count Theory n = 0
operand_count Atom n = 0
operand_count False n = 0
operand_count Implies n = 0
operand_count And n = n
operand_count Or n = n
operand_count Root n = 0
operand_count Candidate n = 0
operand_count Unknown n = 0

abbrev pub root_count : Mark → ℕ → ℕ
root_count Theory n = 0
root_count Atom n = 0
root_count False n = 0
root_count Implies n = 0
root_count And n = 0
root_count Or n = 0
root_count Root n = n
root_count Candidate n = 0
root_count Unknown n = 0

-- the contents of the record at the cursor put where the last ones ended
unfoldable pub stored : List ℕ → Cursor → Tables → Tables
stored file c b =
    record {
      nodes = placed b.nodes (3 * c.counts.nodes) (of_next file c).nodes;
      operands = placed b.operands c.counts.operands (of_next file c).operands;
      roots = placed b.roots c.counts.roots (of_next file c).roots;
    }

-- those of at most so many records from the cursor on
unfoldable pub stored_from : List ℕ → Cursor → Tables → ℕ → Tables
stored_from file c b zero = b
stored_from file c b (suc n) =
    cond (eqb c.at (length file)) b
    (elim (judged file c) [ Ok next ↦ stored_from file next (stored file c b) n | Err r ↦ b ])
