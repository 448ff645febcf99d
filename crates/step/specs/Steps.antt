-- What a call of `step` is lent, and what it answers and leaves.
-- Assumes nothing.
use Rattle.std.specs.Prelude.{ℕ, ◌*◌, ◌≤◌, ◌≡◌, Bool, cond, List, set, Option, Some, None, Result, Ok, Err}
use Rattle.theory.specs.Limits.{Limited}
use Rattle.theory.specs.declared.Counts.{Counts}
use Rattle.theory.specs.declared.Refusal.{Refusal}
use Rattle.theory.specs.declared.Refusal.TheVariants.{BadEntry}
use Rattle.words.specs.Changed.{unlike}
use Rattle.readers.specs.ReaderTable.{reader_words}
use Rattle.kept.specs.CountedSet.{and_then}
use Rattle.kept.specs.Worklist.{without_first}
use Rattle.kept.specs.Tables.{Tables, node_count, readers_at}
use Rattle.kept.specs.Evaluation.{Evaluation, truth_at, truth_word}
use Rattle.kept.specs.Parts.{with_truths}
use Rattle.kept.specs.Step.{readers_updated, Stepped, idle, took, fault, settled_from}
use Rattle.kept.specs.Layout.{written}
use Rattle.kept_laws.specs.Given.{used_by}
use Rattle.kept_laws.specs.Wrote.{Beside}

-- the slices are as long as the counts say, and no more producers than roots
pub record Lent (t : Counts) (made nodes operands producers readers kept : ℕ) : Type 0 where
  pub limited : Limited t
  pub few : made ≤ t.roots
  pub nodes_long : 3 * t.nodes ≤ nodes
  pub operands_long : t.operands ≤ operands
  pub producers_long : 4 * t.roots ≤ producers
  pub readers_long : reader_words t ≤ readers
  pub kept_long : used_by t ≤ kept

-- `settled` of kept, without the node's number
unfoldable pub settled_to : Tables → ℕ → Bool → Evaluation → Option Evaluation
settled_to T k t e = cond (unlike (truth_at e k) t) (and_then (readers_at T k) (readers_updated T k t (with_truths e (set e.truths k (truth_word t))))) (Some e)

-- node k, the first of the worklist, taken off it, and become t
unfoldable pub taken_from : Tables → ℕ → Bool → Evaluation → Stepped
taken_from T k t e = settled_from T k e (Some t) (without_first (node_count T) e.worklist)

-- what a step answers: none, if nothing was on the worklist, or the node that was gone over
abbrev pub Stepping : Type 0
Stepping = Result (Option ℕ) Refusal

abbrev pub Steps : Tables → List ℕ → Stepped → Stepping → List ℕ → Type 0
Steps T ws idle r after = (r ≡ Ok None) × (after ≡ ws)
Steps T ws (took k e) r after = (r ≡ Ok (Some k)) × (after ≡ written T ws e)
Steps T ws (fault k) r after = (r ≡ Err (BadEntry k)) × Beside T ws after
