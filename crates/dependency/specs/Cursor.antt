-- The dependencies before a cursor, and what a step of it gives: one more of them, in order, or none.
-- Assumes nothing.
use Rattle.std.specs.Prelude.{ℕ, ◌+◌, ◌-◌, ◌<◌, ◌≤◌, ◌≡◌, cond, List, [], ◌∷◌, ◌++◌, ltb, Option, Some, None}
use Rattle.base.specs.Gather.{gather}
use Rattle.graph.specs.Edge.{Edge, edge}
use Rattle.theory.specs.Node.{node_at, span}
use Rattle.theory.specs.Admission.{span_start}
use Rattle.theory.specs.declared.Counts.{Counts}
use Rattle.theory.specs.declared.Node.{Node}
use Rattle.theory.specs.declared.Node.TheVariants as node
use Rattle.ranks.specs.Dependency.{positive, operand_edges, edges_into, edges_of}
use Rattle.dependency.specs.declared.Cursor.{Cursor}

-- how many operands a node has in the operand table
abbrev pub slots : Node → ℕ
slots (node.Atom a) = 0
slots node.False = 0
slots (node.Implies l r) = 0
slots (node.And s c) = c
slots (node.Or s c) = c
slots node.Unknown = 0

-- those into node k from the first j of its operands
unfoldable pub slot_edges : ℕ → List ℕ → List ℕ → ℕ → ℕ → Node → List Edge
slot_edges A operands classes k j (node.Atom a) = []
slot_edges A operands classes k j node.False = []
slot_edges A operands classes k j (node.Implies l r) = []
slot_edges A operands classes k j (node.And s c) = cond (positive classes k) (operand_edges A classes (A + k) (span operands s j)) []
slot_edges A operands classes k j (node.Or s c) = cond (positive classes k) (operand_edges A classes (A + k) (span operands s j)) []
slot_edges A operands classes k j node.Unknown = []

module _ (t : Counts) (nodes operands classes roots : List ℕ) where
  -- the dependencies before the cursor
  unfoldable pub before : Cursor → List Edge
  before c =
      cond (ltb c.node t.nodes)
      (gather (edges_into t.atoms nodes operands classes) c.node ++ slot_edges t.atoms operands classes c.node c.slot (node_at nodes c.node))
      (gather (edges_into t.atoms nodes operands classes) t.nodes ++ gather (edges_of t.atoms nodes operands classes roots) c.root)

  -- how many places are left to look at, at most
  unfoldable pub left : Cursor → ℕ
  left c = (span_start nodes t.nodes - (span_start nodes c.node + c.slot)) + (t.nodes - c.node) + (t.roots - c.root)

  pub record InRange (c : Cursor) : Type 0 where
    pub node_in : c.node ≤ t.nodes
    pub root_in : c.root ≤ t.roots
    pub slot_in : c.slot ≤ slots (node_at nodes c.node)
    pub slots_over : t.nodes ≤ c.node → c.slot ≡ 0
    pub roots_later : c.node < t.nodes → c.root ≡ 0

  pub record Moved (c d : Cursor) (es : List Edge) : Type 0 where
    pub grown : before d ≡ before c ++ es
    pub range : InRange d
    pub less : left d < left c

  -- a step from the cursor c to d: the edge there, if there is one
  abbrev pub Stepped : Cursor → Option (ℕ × ℕ) → Cursor → Type 0
  Stepped c (Some e) d = Moved c d (edge e.0 e.1 ∷ []) × (e.0 < t.atoms + t.nodes) × (e.1 < t.atoms + t.nodes)
  Stepped c None d = Moved c d []
