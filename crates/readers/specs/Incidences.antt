-- The incidences of a theory and its producers: which list gets which entry, in the order of discovery.
-- Assumes nothing.
use Rattle.std.specs.Prelude.{ℕ, zero, suc, ◌+◌, ◌*◌, cond, List, [], ◌∷◌, ◌++◌, map, eqb, get_or}
use Rattle.theory.specs.Node.{node_at, operands_of}
use Rattle.theory.specs.declared.Counts.{Counts}
use Rattle.theory.specs.declared.Node.{Node}
use Rattle.theory.specs.declared.Node.TheVariants.{Atom, False, Implies, And, Or, Unknown}
use Rattle.readers.specs.Joined.{joined}
use Rattle.readers.specs.Reader.{node_reader, producer_reader, root_reader}

pub record Item : Type 0 where
  pub slot : ℕ
  pub entry : ℕ

abbrev pub item : ℕ → ℕ → Item
item slot entry = record { slot = slot; entry = entry }

-- list k is node k's readers; behind the n nodes' lists and an empty one stand those of the atoms
abbrev pub atom_slot : ℕ → ℕ → ℕ
atom_slot n a = n + 1 + a

unfoldable pub operand_items : ℕ → List ℕ → List Item
operand_items k os = map (λ o. item o (node_reader k)) os

-- node k reads its operands, one entry an occurrence; an Atom node is listed with its atom
unfoldable pub node_items : ℕ → List ℕ → ℕ → Node → List Item
node_items n operands k (Atom a) = item (atom_slot n a) k ∷ []
node_items n operands k False = []
node_items n operands k (Implies l r) = operand_items k (operands_of operands (Implies l r))
node_items n operands k (And s c) = operand_items k (operands_of operands (And s c))
node_items n operands k (Or s c) = operand_items k (operands_of operands (Or s c))
node_items n operands k Unknown = []

-- the same of node k of the table
abbrev pub items_at : Counts → List ℕ → List ℕ → ℕ → List Item
items_at t nodes operands k = node_items t.nodes operands k (node_at nodes k)

-- producer i reads its body; its second word is the body + 1, 0 without body
abbrev pub body_items : ℕ → ℕ → List Item
body_items i zero = []
body_items i (suc b) = item b (producer_reader i) ∷ []

unfoldable pub producer_items : List ℕ → ℕ → List Item
producer_items producers i = body_items i (get_or producers (4 * i + 1) 0)

-- root position i reads its node
unfoldable pub root_items : List ℕ → ℕ → List Item
root_items roots i = item (get_or roots i 0) (root_reader i) ∷ []

-- nodes, then p producers, then root positions
unfoldable pub incidences : Counts → List ℕ → List ℕ → List ℕ → List ℕ → ℕ → List Item
incidences t nodes operands roots producers p =
    joined (items_at t nodes operands) 0 t.nodes
    ++ (joined (producer_items producers) 0 p ++ joined (root_items roots) 0 t.roots)

-- the entries of list s, in order
unfoldable pub entries_of : ℕ → List Item → List ℕ
entries_of s [] = []
entries_of s (x ∷ xs) = cond (eqb x.slot s) (x.entry ∷ entries_of s xs) (entries_of s xs)
