-- The walk of a kept check as document 01 tells it, over plain sets: which nodes are true, which nodes wait, which atoms the candidate has.
-- Assumes nothing.
use Rattle.std.specs.Prelude.{ℕ, ◌<◌, ◌≡◌, Bool, true, false, not, ◌&&◌, ◌||◌, List, eqb, Some}
use Rattle.formula.specs.Satisfaction.{Interpretation}
use Rattle.theory.specs.Node.{node_at}
use Rattle.theory.specs.NodeTruth.{node_truth}
use Rattle.words.specs.Changed.{unlike}
use Rattle.readers.specs.Readers.{occurrences}
use Rattle.kept.specs.Tabulate.{updated}
use Rattle.kept.specs.Worklist.{Worklist, Lists}
use Rattle.kept.specs.Tables.{Tables, atom_count, node_count, operands_at}
use Rattle.kept.specs.Evaluation.{truth, summary, fresh}
use Rattle.kept.specs.Step.{idle, took, step}
use Rattle.kept.specs.Start.{walk_start}
use Rattle.kept.specs.Dirty.{touched}

-- k stands in the list
unfoldable pub among : ℕ → List ℕ → Bool
among k xs = not (eqb (occurrences k xs) 0)

-- the truth of node k by the truth v of lower nodes and the candidate c
abbrev pub truth_by : Tables → Interpretation → (ℕ → Bool) → ℕ → Bool
truth_by T c v k = node_truth c T.operands v (node_at T.nodes k)

-- the nodes that wait once node k has been taken and has become t: k no longer, and the nodes that read k if its truth changed
unfoldable pub waiting_after : Tables → (ℕ → Bool) → (ℕ → Bool) → ℕ → Bool → ℕ → Bool
waiting_after T v w k t j = updated w k false j || unlike (v k) t && among k (operands_at T j)

-- `summary T v L c`: the kept evaluation in which v are true, those on L wait and c is the candidate, and all else goes by them;
-- `Lists n w L`: these are the nodes of w
pub record PlainWalk (T : Tables) : Type 0 where
  -- it begins with the new candidate J and its missing atoms, and with the atom nodes of the changed atoms waiting
  pub begins : (I J : Interpretation)
      → (L : Worklist) × Lists (node_count T) (touched T I J) L × (walk_start T J (atom_count T) (fresh T I) ≡ Some (summary T (truth T I) L J))
  -- a step takes the lowest node that waits, sets its truth and whatever goes by it, and each node that reads it waits if the truth changed
  pub takes : (v w c : ℕ → Bool) (L : Worklist) (k : ℕ) → Lists (node_count T) w L → k < node_count T → w k ≡ true → ((j : ℕ) → j < k → w j ≡ false)
      → (L' : Worklist) × Lists (node_count T) (waiting_after T v w k (truth_by T c v k)) L'
      × (step T (summary T v L c) ≡ took k (summary T (updated v k (truth_by T c v k)) L' c))
  -- it ends when none waits
  pub ends : (v w c : ℕ → Bool) (L : Worklist) → Lists (node_count T) w L → ((j : ℕ) → j < node_count T → w j ≡ false) → step T (summary T v L c) ≡ idle
