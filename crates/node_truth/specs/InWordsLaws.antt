-- What the words say is what the evaluation that they hold says.
-- Assumes nothing.
use Rattle.std.specs.Prelude.{ℕ, ◌<◌, ◌≤◌, ◌/◌, ◌%◌, ◌≡◌, List, eqb, length}
use Rattle.std.proofs.Common.{arith}
use Rattle.std.proofs.Math.Path.{ap}
use Rattle.std.proofs.Math.Bool.{not}
use Rattle.theory.specs.Node.{node_at}
use Rattle.words.specs.Bit.{bit}
use Rattle.words.specs.Sets.{member}
use Rattle.kept.specs.Tables.{Tables, atom_count, node_count}
use Rattle.kept.specs.Evaluation.{truth_at, present}
use Rattle.kept.specs.Seen.{node_seen, seen_by}
use Rattle.kept.specs.SeenLaws.{node_seen_agree}
use Rattle.kept.specs.Layout.{of_words, used}
use Rattle.kept_laws.specs.Written.{get_truth, get_candidate}
use Rattle.node_truth.specs.InWords.{true_in, present_in}

module _ (T : Tables) (ws : List ℕ) (long : used T ≤ length ws) where
  pub true_in_lem : (o : ℕ) → o < node_count T → true_in ws o ≡ truth_at (of_words T ws) o
  unfolding true_in
  true_in_lem o l = ap (λ x. not (eqb x 0)) (get_truth T ws long o l)

  pub present_in_lem : (a : ℕ) → a < atom_count T → present_in T.counts ws a ≡ present (of_words T ws) a
  unfolding present_in member
  present_in_lem a l = ap (λ x. bit x (a % 32)) (get_candidate T ws long (a / 32) (omega arith))

  pub seen_in : (k : ℕ) → k < node_count T
      → node_seen T.counts T.operands (present_in T.counts ws) (true_in ws) k (node_at T.nodes k) ≡ seen_by T (present (of_words T ws)) (truth_at (of_words T ws)) k
  unfolding seen_by
  seen_in k l =
      node_seen_agree k (true_in ws) (truth_at (of_words T ws)) (λ o i. true_in_lem o (omega arith)) T.counts T.operands (present_in T.counts ws) (present (of_words T ws)) present_in_lem (node_at T.nodes k)
