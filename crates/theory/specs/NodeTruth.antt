-- The truth of a node under an interpretation, from that of lower nodes.
-- Assumes nothing.
use Rattle.std.specs.Prelude.{ℕ, Bool, true, false, not, ◌&&◌, ◌||◌, List, [], ◌∷◌, map}
use Rattle.base.specs.Rising.{rising}
use Rattle.formula.specs.Satisfaction.{Interpretation}
use Rattle.theory.specs.Node.{node_at, span}
use Rattle.theory.specs.declared.Node.{Node}
use Rattle.theory.specs.declared.Node.TheVariants.{Atom, False, Implies, And, Or, Unknown}

unfoldable pub all_true : List Bool → Bool
all_true [] = true
all_true (b ∷ bs) = b && all_true bs

unfoldable pub any_true : List Bool → Bool
any_true [] = false
any_true (b ∷ bs) = b || any_true bs

unfoldable pub node_truth : Interpretation → List ℕ → (ℕ → Bool) → Node → Bool
node_truth I operands v (Atom a) = I a
node_truth I operands v False = false
node_truth I operands v (Implies l r) = not (v l) || v r
node_truth I operands v (And s c) = all_true (map v (span operands s c))
node_truth I operands v (Or s c) = any_true (map v (span operands s c))
node_truth I operands v Unknown = false

-- of the n first nodes
unfoldable pub node_truths : Interpretation → List ℕ → List ℕ → ℕ → List Bool
node_truths I nodes operands n = rising false (λ v k. node_truth I operands v (node_at nodes k)) n
