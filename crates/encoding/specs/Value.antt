-- What a theory file says: a theory and its candidates, as plain values.
-- Assumes nothing.
use Rattle.std.specs.Prelude.{ℕ, List}

-- a node: it names an atom, or lower nodes by their numbers
pub data Node : Type 0 where
  Atom : ℕ → Node
  False : Node
  Implies : ℕ → ℕ → Node
  And : List ℕ → Node
  Or : List ℕ → Node

-- the number of atoms, the nodes in order, the nodes that are roots, and the atoms of each candidate
pub record TheoryFile : Type 0 where
  pub stamp : ℕ
  pub atoms : ℕ
  pub nodes : List Node
  pub roots : List ℕ
  pub candidates : List (List ℕ)
