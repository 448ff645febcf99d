-- The highest rank over the atoms that a node reaches through Positive And and Or, from those of lower nodes.
-- Assumes nothing.
use Rattle.std.specs.Prelude.{ℕ, max, cond, List, [], ◌∷◌, map, get_or}
use Rattle.base.specs.Rising.{rising}
use Rattle.formula.specs.Class.{Class, frozen}
use Rattle.formula.specs.Rank.{is_positive}
use Rattle.theory.specs.Node.{node_at, span}
use Rattle.theory.specs.NodeClass.{node_classes}
use Rattle.theory.specs.declared.Node.{Node}
use Rattle.theory.specs.declared.Node.TheVariants.{Atom, False, Implies, And, Or, Unknown}

unfoldable pub greatest : List ℕ → ℕ
greatest [] = 0
greatest (x ∷ xs) = max x (greatest xs)

-- of a node of the given class
unfoldable pub node_highest : (ℕ → ℕ) → List ℕ → Class → (ℕ → ℕ) → Node → ℕ
node_highest rank operands class h (Atom a) = rank a
node_highest rank operands class h False = 0
node_highest rank operands class h (Implies l r) = 0
node_highest rank operands class h (And s c) = cond (is_positive class) (greatest (map h (span operands s c))) 0
node_highest rank operands class h (Or s c) = cond (is_positive class) (greatest (map h (span operands s c))) 0
node_highest rank operands class h Unknown = 0

-- of the n first nodes
unfoldable pub node_highests : (ℕ → ℕ) → List ℕ → List ℕ → ℕ → List ℕ
node_highests rank nodes operands n =
    rising 0 (λ h k. node_highest rank operands (get_or (node_classes nodes operands n) k frozen) h (node_at nodes k)) n
