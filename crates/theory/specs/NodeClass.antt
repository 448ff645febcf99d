-- The class of a node, from those of lower nodes.
-- Assumes nothing.
use Rattle.std.specs.Prelude.{ℕ, Bool, true, false, cond, List, [], ◌∷◌, map}
use Rattle.base.specs.Rising.{rising}
use Rattle.formula.specs.Class.{Class, positive, frozen, opaque, join}
use Rattle.theory.specs.Node.{node_at, span}
use Rattle.theory.specs.declared.Node.{Node}
use Rattle.theory.specs.declared.Node.TheVariants.{Atom, False, Implies, And, Or, Unknown}

abbrev pub is_false : Node → Bool
is_false (Atom a) = false
is_false False = true
is_false (Implies l r) = false
is_false (And s c) = false
is_false (Or s c) = false
is_false Unknown = false

unfoldable pub joined : List Class → Class
joined [] = frozen
joined (c ∷ cs) = join c (joined cs)

unfoldable pub node_class : List ℕ → List ℕ → (ℕ → Class) → Node → Class
node_class nodes operands c (Atom a) = positive
node_class nodes operands c False = frozen
node_class nodes operands c (Implies l r) = cond (is_false (node_at nodes r)) frozen opaque
node_class nodes operands c (And s n) = joined (map c (span operands s n))
node_class nodes operands c (Or s n) = joined (map c (span operands s n))
node_class nodes operands c Unknown = frozen

-- of the n first nodes
unfoldable pub node_classes : List ℕ → List ℕ → ℕ → List Class
node_classes nodes operands n = rising frozen (λ c k. node_class nodes operands c (node_at nodes k)) n
