-- Tables as a plan leaves them: every entry within its table, and the reader lists complete.
-- Assumes nothing.
use Rattle.std.specs.Prelude.{ℕ, ◌+◌, ◌<◌, ◌≤◌, ◌≡◌, true, List, ltb, leb, Some}
use Rattle.std.proofs.Common.{ltb-true}
use Rattle.base.specs.Tests.{both_left, both_right}
use Rattle.base.specs.Each.{Each}
use Rattle.theory.specs.Admission.{all_below}
use Rattle.theory.specs.Limits.{Limited}
use Rattle.theory.specs.Node.{node_at, span, operands_of}
use Rattle.theory.specs.Spans.{all_below_each}
use Rattle.theory.specs.declared.Counts.{Counts}
use Rattle.theory.specs.declared.Node.{Node}
use Rattle.theory.specs.declared.Node.TheVariants.{Atom, False, Implies, And, Or, Unknown}
use Rattle.readers.specs.Readers.{readers_of}
use Rattle.readers.specs.AtomNodes.{atom_nodes_of}
use Rattle.kept.specs.Tables.{Tables, atom_count, node_count, root_count, root_at, head_at, body_at, operands_at, sound_node, sound, readers_at, atom_nodes_at}

-- the readers of node k, as the planner lists them
abbrev pub readers_in : Tables → ℕ → List ℕ
readers_in T k = readers_of T.counts T.nodes T.operands T.roots T.producers T.made k

abbrev pub atom_nodes_in : Tables → ℕ → List ℕ
atom_nodes_in T a = atom_nodes_of T.counts T.nodes a

pub record Consistent (T : Tables) : Type 0 where
  pub limited : Limited T.counts
  pub node : (k : ℕ) → k < node_count T → sound T k ≡ true
  pub head : (p : ℕ) → p < T.made → head_at T p < atom_count T
  pub body : (p : ℕ) → p < T.made → body_at T p ≤ node_count T
  pub root : (r : ℕ) → r < root_count T → root_at T r < node_count T
  pub few : T.made ≤ root_count T
  pub readers : (k : ℕ) → k < node_count T → readers_at T k ≡ Some (readers_in T k)
  pub atom_nodes : (a : ℕ) → a < atom_count T → atom_nodes_at T a ≡ Some (atom_nodes_in T a)

lower_by : (t : Counts) (operands : List ℕ) (k : ℕ) (node : Node) → sound_node t operands k node ≡ true → Each (λ o. o < k) (operands_of operands node)
unfolding sound_node operands_of
lower_by t operands k (Atom a) e = tt
lower_by t operands k False e = tt
lower_by t operands k (Implies l r) e = (ltb-true l k (both_left (ltb l k) (ltb r k) e), (ltb-true r k (both_right (ltb l k) (ltb r k) e), tt))
lower_by t operands k (And s c) e = all_below_each k (span operands s c) (both_right (leb (s + c) t.operands) (all_below k (span operands s c)) e)
lower_by t operands k (Or s c) e = all_below_each k (span operands s c) (both_right (leb (s + c) t.operands) (all_below k (span operands s c)) e)
lower_by t operands k Unknown e = tt

-- a sound node's operands are below it
pub operands_lower : (T : Tables) (k : ℕ) → sound T k ≡ true → Each (λ o. o < k) (operands_at T k)
unfolding sound operands_at
operands_lower T k e = lower_by T.counts T.operands k (node_at T.nodes k) e

-- a sound Atom node's atom is an atom
pub atom_lower : (T : Tables) (k a : ℕ) → sound T k ≡ true → node_at T.nodes k ≡ Atom a → a < atom_count T
unfolding sound sound_node
atom_lower T k a e i = ltb-true a (atom_count T) (rw (i, sound_node) at e)
