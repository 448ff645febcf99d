-- The dependencies of a theory, in the order of the Rust's `each_dependency`: atom a is vertex a, node k is vertex A + k; nodes rising, then producers.
-- Assumes nothing.
use Rattle.std.specs.Prelude.{ℕ, zero, suc, ◌+◌, Bool, true, false, cond, List, [], ◌∷◌, ◌++◌, eqb, get_or, Option, Some, None, Result, Ok, Err}
use Rattle.base.specs.Gather.{gather}
use Rattle.graph.specs.Edge.{Edge, edge}
use Rattle.theory.specs.Node.{node_at, span}
use Rattle.theory.specs.declared.Counts.{Counts}
use Rattle.theory.specs.declared.Node.{Node}
use Rattle.theory.specs.declared.Node.TheVariants.{Atom, False, Implies, And, Or, Unknown}
use Rattle.compile.specs.Producer.{produced}
use Rattle.theory.specs.declared.Refusal.{Refusal}
use Rattle.compile.specs.declared.Producer.{Producer}

-- a class word is Positive's
abbrev pub positive : List ℕ → ℕ → Bool
positive classes k = eqb (get_or classes k 0) 1

-- e, if the test holds
unfoldable pub only : Bool → Edge → List Edge
only true e = e ∷ []
only false e = []

-- from the Positive ones of some operands to the vertex v
unfoldable pub operand_edges : ℕ → List ℕ → ℕ → List ℕ → List Edge
operand_edges A classes v [] = []
operand_edges A classes v (o ∷ os) = only (positive classes o) (edge (A + o) v) ++ operand_edges A classes v os

-- into node k: from its atom, or from its Positive operands if it is a Positive And or Or
unfoldable pub node_edges : ℕ → List ℕ → List ℕ → ℕ → Node → List Edge
node_edges A operands classes k (Atom a) = edge a (A + k) ∷ []
node_edges A operands classes k False = []
node_edges A operands classes k (Implies l r) = []
node_edges A operands classes k (And s c) = cond (positive classes k) (operand_edges A classes (A + k) (span operands s c)) []
node_edges A operands classes k (Or s c) = cond (positive classes k) (operand_edges A classes (A + k) (span operands s c)) []
node_edges A operands classes k Unknown = []

-- from a Positive body to its head; a body word is a node + 1, or 0 for none
unfoldable pub body_edges : ℕ → List ℕ → ℕ → ℕ → List Edge
body_edges A classes head zero = []
body_edges A classes head (suc b) = only (positive classes b) (edge (A + b) head)

unfoldable pub produced_edges : ℕ → List ℕ → Result (Option Producer) Refusal → List Edge
produced_edges A classes (Ok None) = []
produced_edges A classes (Ok (Some p)) = body_edges A classes p.head p.body
produced_edges A classes (Err r) = []

-- into node k of the table; of the root at position i
unfoldable pub edges_into : ℕ → List ℕ → List ℕ → List ℕ → ℕ → List Edge
edges_into A nodes operands classes k = node_edges A operands classes k (node_at nodes k)

unfoldable pub edges_of : ℕ → List ℕ → List ℕ → List ℕ → List ℕ → ℕ → List Edge
edges_of A nodes operands classes roots i = produced_edges A classes (produced nodes operands classes (get_or roots i 0))

unfoldable pub dependencies : Counts → List ℕ → List ℕ → List ℕ → List ℕ → List Edge
dependencies t nodes operands classes roots =
    gather (edges_into t.atoms nodes operands classes) t.nodes ++ gather (edges_of t.atoms nodes operands classes roots) t.roots
