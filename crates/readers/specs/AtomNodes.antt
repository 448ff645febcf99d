-- The Atom nodes of an atom.
-- Assumes nothing.
use Rattle.std.specs.Prelude.{ℕ, Bool, false, List, eqb}
use Rattle.base.specs.Places.{places}
use Rattle.theory.specs.Node.{node_at}
use Rattle.theory.specs.declared.Counts.{Counts}
use Rattle.theory.specs.declared.Node.{Node}
use Rattle.theory.specs.declared.Node.TheVariants.{Atom, False, Implies, And, Or, Unknown}

abbrev pub is_atom_of : ℕ → Node → Bool
is_atom_of a (Atom b) = eqb b a
is_atom_of a False = false
is_atom_of a (Implies l r) = false
is_atom_of a (And s c) = false
is_atom_of a (Or s c) = false
is_atom_of a Unknown = false

-- the Atom nodes of atom a, rising
unfoldable pub atom_nodes_of : Counts → List ℕ → ℕ → List ℕ
atom_nodes_of t nodes a = places (λ k. is_atom_of a (node_at nodes k)) 0 t.nodes
