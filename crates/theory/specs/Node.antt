-- A node: three words of the node table, and for And and Or a span of the operand table.
-- Assumes nothing.
use Rattle.std.specs.Prelude.{ℕ, zero, suc, ◌+◌, ◌*◌, ◌<◌, List, [], ◌∷◌, get_or, take, drop}
use Rattle.theory.specs.declared.Node.{Node}
use Rattle.theory.specs.declared.Node.TheVariants.{Atom, False, Implies, And, Or, Unknown}

-- by kind: 0 Atom(atom), 1 False, 2 Implies(left, right), 3 And and 4 Or (start, count)
abbrev pub decoded : ℕ → ℕ → ℕ → Node
decoded zero a b = Atom a
decoded (suc zero) a b = False
decoded (suc (suc zero)) a b = Implies a b
decoded (suc (suc (suc zero))) a b = And a b
decoded (suc (suc (suc (suc zero)))) a b = Or a b
decoded (suc (suc (suc (suc (suc n))))) a b = Unknown

-- node k of the table
unfoldable pub node_at : List ℕ → ℕ → Node
node_at nodes k = decoded (get_or nodes (3 * k) 0) (get_or nodes (3 * k + 1) 0) (get_or nodes (3 * k + 2) 0)

-- count entries of the operand table from start on
unfoldable pub span : List ℕ → ℕ → ℕ → List ℕ
span operands start count = take count (drop start operands)

-- the nodes that a node names, one entry an occurrence
unfoldable pub operands_of : List ℕ → Node → List ℕ
operands_of operands (Atom a) = []
operands_of operands False = []
operands_of operands (Implies l r) = l ∷ r ∷ []
operands_of operands (And s c) = span operands s c
operands_of operands (Or s c) = span operands s c
operands_of operands Unknown = []

-- each number that the node holds is a u32
abbrev pub Small : Node → Type 0
Small (Atom a) = a < 4294967296
Small False = Unit {0}
Small (Implies l r) = (l < 4294967296) × (r < 4294967296)
Small (And s c) = (s < 4294967296) × (c < 4294967296)
Small (Or s c) = (s < 4294967296) × (c < 4294967296)
Small Unknown = Unit {0}
