-- The reader table, lent buffer 6: starts of the nodes' lists, starts of the atoms', then all entries.
-- Assumes nothing.
use Rattle.std.specs.Prelude.{ℕ, ◌+◌, ◌-◌, ◌*◌, cond, List, [], ltb}
use Rattle.theory.specs.declared.Counts.{Counts}
use Rattle.readers.specs.Laid.{laid_over}
use Rattle.readers.specs.Readers.{readers_of}
use Rattle.readers.specs.AtomNodes.{atom_nodes_of}

-- list s of the table: the nodes' readers, an empty list, the atoms' nodes
unfoldable pub list_of : Counts → List ℕ → List ℕ → List ℕ → List ℕ → ℕ → ℕ → List ℕ
list_of t nodes operands roots producers p s =
    cond (ltb s t.nodes) (readers_of t nodes operands roots producers p s)
    (cond (ltb t.nodes s) (atom_nodes_of t nodes (s - (t.nodes + 1))) [])

-- how many lists the table has; their starts and the last one's end are N + 1 of nodes and A + 1 of atoms
abbrev pub slots : Counts → ℕ
slots t = t.nodes + t.atoms + 1

-- as many words as lent buffer 6 must have
abbrev pub reader_words : Counts → ℕ
reader_words t = 2 + t.atoms + 4 * t.nodes + t.operands + 2 * t.roots

-- a lent table once it is built: these words, and what was behind them
unfoldable pub built : Counts → List ℕ → List ℕ → List ℕ → List ℕ → ℕ → List ℕ → List ℕ
built t nodes operands roots producers p words = laid_over (list_of t nodes operands roots producers p) (slots t) words
