-- The truth of a node from that of lower ones, as a check reads it; none: an entry met there is outside its table, or an operand not below the node.
-- Assumes nothing.
use Rattle.std.specs.Prelude.{ℕ, ◌+◌, Bool, true, false, not, cond, ◌&&◌, ◌||◌, List, [], ◌∷◌, ltb, leb, Option, Some, None}
use Rattle.formula.specs.Satisfaction.{Interpretation}
use Rattle.theory.specs.Node.{node_at, span}
use Rattle.theory.specs.declared.Counts.{Counts}
use Rattle.theory.specs.declared.Node.{Node}
use Rattle.theory.specs.declared.Node.TheVariants.{Atom, False, Implies, And, Or, Unknown}
use Rattle.words.specs.Changed.{unlike}
use Rattle.kept.specs.Tables.{Tables}

-- And and Or: operands are met up to the first whose truth is d, which decides (false for And, true for Or)
unfoldable pub group_seen : ℕ → (ℕ → Bool) → Bool → List ℕ → Option Bool
group_seen k v d [] = Some (not d)
group_seen k v d (o ∷ os) = cond (ltb o k) (cond (unlike (v o) d) (group_seen k v d os) (Some d)) None

-- of node k, by atoms I and truths v
unfoldable pub node_seen : Counts → List ℕ → Interpretation → (ℕ → Bool) → ℕ → Node → Option Bool
node_seen t operands I v k (Atom a) = cond (ltb a t.atoms) (Some (I a)) None
node_seen t operands I v k False = Some false
node_seen t operands I v k (Implies l r) = cond (ltb l k && ltb r k) (Some (not (v l) || v r)) None
node_seen t operands I v k (And s c) = cond (leb (s + c) t.operands) (group_seen k v false (span operands s c)) None
node_seen t operands I v k (Or s c) = cond (leb (s + c) t.operands) (group_seen k v true (span operands s c)) None
node_seen t operands I v k Unknown = None

unfoldable pub seen_by : Tables → Interpretation → (ℕ → Bool) → ℕ → Option Bool
seen_by T I v k = node_seen T.counts T.operands I v k (node_at T.nodes k)
