-- Tables in the form that document 01 gives: known kinds, atoms below `atoms`, operands below their node, spans one after the other, roots that are nodes.
-- Assumes nothing.
use Rattle.std.specs.Prelude.{ℕ, ◌+◌, ◌*◌, ◌<◌, ◌≤◌, ◌≡◌, List, length, get_or}
use Rattle.base.specs.Each.{Each}
use Rattle.theory.specs.Node.{node_at, span}
use Rattle.theory.specs.Admission.{span_start}
use Rattle.theory.specs.declared.Counts.{Counts}
use Rattle.theory.specs.declared.Node.{Node}
use Rattle.theory.specs.declared.Node.TheVariants.{Atom, False, Implies, And, Or, Unknown}

-- the span of node k, an And or an Or
pub record SpanFormed (t : Counts) (operands : List ℕ) (start k s c : ℕ) : Type 0 where
  pub begins : s ≡ start
  pub some : 0 < c
  pub fits : s + c ≤ t.operands
  pub lower : Each (λ o. o < k) (span operands s c)

abbrev pub NodeFormed : Counts → List ℕ → ℕ → ℕ → Node → Type 0
NodeFormed t operands start k (Atom a) = a < t.atoms
NodeFormed t operands start k False = Unit {0}
NodeFormed t operands start k (Implies l r) = (l < k) × (r < k)
NodeFormed t operands start k (And s c) = SpanFormed t operands start k s c
NodeFormed t operands start k (Or s c) = SpanFormed t operands start k s c
NodeFormed t operands start k Unknown = ⊥

-- of every node
abbrev pub NodesFormed : Counts → List ℕ → List ℕ → Type 0
NodesFormed t nodes operands = (k : ℕ) → k < t.nodes → NodeFormed t operands (span_start nodes k) k (node_at nodes k)

-- lent node and operand tables in that form
pub record NodeTables (t : Counts) (nodes operands : List ℕ) : Type 0 where
  pub nodes_long : 3 * t.nodes ≤ length nodes
  pub operands_long : t.operands ≤ length operands
  pub formed : NodesFormed t nodes operands

-- a lent root table whose roots are nodes
pub record RootTable (t : Counts) (roots : List ℕ) : Type 0 where
  pub roots_long : t.roots ≤ length roots
  pub in_nodes : (i : ℕ) → i < t.roots → get_or roots i 0 < t.nodes

pub record WellFormed (t : Counts) (nodes operands roots : List ℕ) : Type 0 where
  pub node : NodesFormed t nodes operands
  pub root : (i : ℕ) → i < t.roots → get_or roots i 0 < t.nodes
