-- The nodes that a walk from candidate I to candidate J should go over.
-- Assumes nothing.
use Rattle.std.specs.Prelude.{ℕ, Bool, false, ◌||◌, map}
use Rattle.formula.specs.Satisfaction.{Interpretation}
use Rattle.theory.specs.Node.{node_at}
use Rattle.theory.specs.NodeTruth.{any_true}
use Rattle.theory.specs.declared.Node as views
use Rattle.theory.specs.declared.Node.TheVariants.{Atom, False, Implies, And, Or, Unknown}
use Rattle.words.specs.Changed.{unlike}
use Rattle.kept.specs.Tables.{Tables, operands_at}
use Rattle.kept.specs.Evaluation.{truth}

-- an Atom node of a changed atom
abbrev pub touched_node : Interpretation → Interpretation → views.Node → Bool
touched_node I J (Atom a) = unlike (I a) (J a)
touched_node I J False = false
touched_node I J (Implies l r) = false
touched_node I J (And s c) = false
touched_node I J (Or s c) = false
touched_node I J Unknown = false

unfoldable pub touched : Tables → Interpretation → Interpretation → ℕ → Bool
touched T I J k = touched_node I J (node_at T.nodes k)

-- the truth of a node changes
unfoldable pub flips : Tables → Interpretation → Interpretation → ℕ → Bool
flips T I J k = unlike (truth T I k) (truth T J k)

-- such an atom node, or a node with an operand whose truth changes
unfoldable pub dirty : Tables → Interpretation → Interpretation → ℕ → Bool
dirty T I J k = touched T I J k || any_true (map (flips T I J) (operands_at T k))
