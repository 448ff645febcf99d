-- A worked example (document 01: a drawing to try), and what its user sees: the refusal of its plan, or the answers of its checks one after the other.
-- Assumes nothing.
use Rattle.std.specs.Prelude.{ℕ, ◌*◌, List, [], ◌∷◌, replicate, Result, Ok, Err}
use Rattle.theory.specs.declared.Counts.{Counts}
use Rattle.theory.specs.declared.Refusal.{Refusal}
use Rattle.plan.specs.Buffers.{readers_length, work_length}
use Rattle.plan.specs.Outcome as plan
use Rattle.kept.specs.Tables.{Tables}
use Rattle.kept.specs.Candidate.{Candidate}
use Rattle.kept.specs.Outcome.{Answer}
use Rattle.kept.specs.Series.{zeroed_words, answer_to, words_after}
use Rattle.series.specs.Lent.{lent}

-- a theory, and the candidates of one word each
pub record Example : Type 0 where
  pub counts : Counts
  pub nodes : List ℕ
  pub operands : List ℕ
  pub roots : List ℕ
  pub candidates : List ℕ

pub data Shown : Type 0 where
  unplanned : Refusal → Shown
  answers : List Answer → Shown

-- the plan, by zeroed buffers as long as listed
unfoldable pub plan_of : Example → plan.Outcome
plan_of d =
    plan.plan_outcome d.counts d.nodes d.operands d.roots
    (replicate (4 * d.counts.roots) 0) (replicate d.counts.atoms 0) (replicate (readers_length d.counts) 0) (replicate (work_length d.counts) 0)

-- a check of each candidate, with the words that the last one left
unfoldable pub checks : Tables → List ℕ → List Candidate → List Answer
checks T ws [] = []
checks T ws (c ∷ cs) = answer_to 64 8 T c ws ∷ checks T (words_after 64 8 T c ws) cs

unfoldable pub candidates_of : ℕ → List ℕ → List Candidate
candidates_of stamp [] = []
candidates_of stamp (w ∷ ws) = record { stamp = stamp; words = w ∷ [] } ∷ candidates_of stamp ws

unfoldable pub shown_by : Example → plan.Outcome → Result ℕ Refusal → Shown
shown_by d o (Ok p) =
    let T = lent d.counts d.nodes d.operands d.roots p o in
    answers (checks T (zeroed_words T []) (candidates_of d.counts.stamp d.candidates))
shown_by d o (Err r) = unplanned r

unfoldable pub shown : Example → Shown
shown d = shown_by d (plan_of d) (plan_of d).answer
