-- What the tables and the summary of a theory file hold, by its values.
-- Assumes nothing.
use Rattle.std.specs.Prelude.{ℕ, ◌+◌, length}
use mathlib.Core.List.{List, [], ◌∷◌, ◌++◌, flat_map}
use Rattle.theory.specs.declared.Counts.{Counts}
use Rattle.record.specs.Contents.{Contents}
use Rattle.record.specs.declared.Summary.{Summary}
use Rattle.encoding.specs.Value.{Node, Atom, False, Implies, And, Or, TheoryFile}
use Rattle.encoding.specs.Encoding.{theory_bytes}

-- the entries of a node in the operand table
unfoldable pub operand_entries : Node → List ℕ
operand_entries (Atom a) = []
operand_entries False = []
operand_entries (Implies l r) = []
operand_entries (And os) = os
operand_entries (Or os) = os

-- the three words of a node: its kind and two numbers, for And and Or where the span begins and how long it is
unfoldable pub node_words : ℕ → Node → List ℕ
node_words start (Atom a) = 0 ∷ a ∷ 0 ∷ []
node_words start False = 1 ∷ 0 ∷ 0 ∷ []
node_words start (Implies l r) = 2 ∷ l ∷ r ∷ []
node_words start (And os) = 3 ∷ start ∷ length os ∷ []
node_words start (Or os) = 4 ∷ start ∷ length os ∷ []

-- the words of the nodes: each span begins where the last ended, the first at `start`
unfoldable pub node_table : ℕ → List Node → List ℕ
node_table start [] = []
node_table start (n ∷ ns) = node_words start n ++ node_table (start + length (operand_entries n)) ns

-- the tables
unfoldable pub contents_of : TheoryFile → Contents
contents_of f =
    record { nodes = node_table 0 f.nodes; operands = flat_map operand_entries f.nodes; roots = f.roots; candidates = f.candidates }

-- the stamp and the counts
unfoldable pub counts_of : TheoryFile → Counts
counts_of f =
    record { stamp = f.stamp; atoms = f.atoms; nodes = length f.nodes; operands = length (flat_map operand_entries f.nodes); roots = length f.roots }

-- the counts, the number of candidates, and the place in the file where they begin
unfoldable pub summary_of : TheoryFile → Summary
summary_of f = record { counts = counts_of f; candidates = length f.candidates; first = length (theory_bytes f) }
