-- The cursor past a record.
-- Assumes nothing.
use Rattle.std.specs.Prelude.{ℕ, ◌+◌, List, length, get_or}
use Rattle.theory.specs.declared.Counts.{Counts}
use Rattle.record.specs.declared.Cursor.{Cursor}
use Rattle.record.specs.declared.Stage.{Stage}
use Rattle.record.specs.declared.Stage.TheVariants.{Start, Nodes, Roots, Candidates}
use Rattle.record.specs.declared.Mark.{Mark}
use Rattle.record.specs.declared.Mark.TheVariants.{Theory, Atom, False, Implies, And, Or, Root, Candidate, Unknown}

-- with so many more nodes, operand entries and roots
abbrev pub more : Counts → ℕ → ℕ → ℕ → Counts
more t n o r = record { stamp = t.stamp; atoms = t.atoms; nodes = t.nodes + n; operands = t.operands + o; roots = t.roots + r }

abbrev pub counts_after : Counts → Mark → List ℕ → Counts
counts_after t Theory vs = record { stamp = get_or vs 0 0; atoms = get_or vs 1 0; nodes = t.nodes; operands = t.operands; roots = t.roots }
counts_after t Atom vs = more t 1 0 0
counts_after t False vs = more t 1 0 0
counts_after t Implies vs = more t 1 0 0
counts_after t And vs = more t 1 (length vs) 0
counts_after t Or vs = more t 1 (length vs) 0
counts_after t Root vs = more t 0 0 (length vs)
counts_after t Candidate vs = t
counts_after t Unknown vs = t

-- a record with these counts after it ends at `end`
abbrev pub passed_other : Cursor → Stage → Counts → ℕ → Cursor
passed_other c stage t end = record { at = end; records = c.records + 1; stage = stage; counts = t; candidates = c.candidates; first = end }

abbrev pub passed : Cursor → Mark → Counts → ℕ → Cursor
passed c Theory t end = passed_other c Nodes t end
passed c Atom t end = passed_other c Nodes t end
passed c False t end = passed_other c Nodes t end
passed c Implies t end = passed_other c Nodes t end
passed c And t end = passed_other c Nodes t end
passed c Or t end = passed_other c Nodes t end
passed c Root t end = passed_other c Roots t end
passed c Candidate t end = record { at = end; records = c.records + 1; stage = Candidates; counts = t; candidates = c.candidates + 1; first = c.first }
passed c Unknown t end = passed_other c Start t end
