-- What a theory file holds, as document 01 lays it out in the tables.
-- Assumes nothing.
use Rattle.std.specs.Prelude.{ℕ, List, [], ◌∷◌, ◌++◌, length, get_or}
use Rattle.record.specs.Mark.{mark_at}
use Rattle.record.specs.Layout.{values_of}
use Rattle.record.specs.declared.Cursor.{Cursor}
use Rattle.record.specs.declared.Mark.{Mark}
use Rattle.record.specs.declared.Mark.TheVariants.{Theory, Atom, False, Implies, And, Or, Root, Candidate, Unknown}

-- three words a node, the operand entries, the roots, and the atoms of each candidate
pub record Contents : Type 0 where
  pub nodes : List ℕ
  pub operands : List ℕ
  pub roots : List ℕ
  pub candidates : List (List ℕ)

abbrev pub nothing : Contents
nothing = record { nodes = []; operands = []; roots = []; candidates = [] }

abbrev pub of_node : ℕ → ℕ → ℕ → List ℕ → Contents
of_node kind a b os = record { nodes = kind ∷ a ∷ b ∷ []; operands = os; roots = []; candidates = [] }

-- of one record; the span of And and Or begins at `start`
abbrev pub of_record : ℕ → Mark → List ℕ → Contents
of_record start Theory vs = nothing
of_record start Atom vs = of_node 0 (get_or vs 0 0) 0 []
of_record start False vs = of_node 1 0 0 []
of_record start Implies vs = of_node 2 (get_or vs 0 0) (get_or vs 1 0) []
of_record start And vs = of_node 3 start (length vs) vs
of_record start Or vs = of_node 4 start (length vs) vs
of_record start Root vs = record { nodes = []; operands = []; roots = vs; candidates = [] }
of_record start Candidate vs = record { nodes = []; operands = []; roots = []; candidates = vs ∷ [] }
of_record start Unknown vs = nothing

abbrev pub joined : Contents → Contents → Contents
joined t u =
    record {
      nodes = t.nodes ++ u.nodes;
      operands = t.operands ++ u.operands;
      roots = t.roots ++ u.roots;
      candidates = t.candidates ++ u.candidates;
    }

-- of the record at the cursor
unfoldable pub of_next : List ℕ → Cursor → Contents
of_next file c = of_record c.counts.operands (mark_at file c.at) (values_of file c.at (mark_at file c.at))
