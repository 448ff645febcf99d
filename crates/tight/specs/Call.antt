-- What a host's call is given, as the definitions have it, and what it leaves.
-- Assumes nothing.
use Rattle.std.specs.Prelude.{ℕ, ◌≡◌, List}
use Rattle.theory.specs.declared.Counts.{Counts}
use Rattle.plan.specs.Outcome.{Outcome}
use Rattle.kept.specs.Outcome as checks
use Rattle.evaluate.specs.declared.Plan.{Plan}
use Rattle.answers.specs.Word.{planning_word, check_word}

abbrev pub counts_of : ℕ → ℕ → ℕ → ℕ → ℕ → Counts
counts_of stamp atoms nodes operands roots = record { stamp = stamp; atoms = atoms; nodes = nodes; operands = operands; roots = roots }

abbrev pub plan_of : ℕ → ℕ → Plan
plan_of stamp producers = record { stamp = stamp; producers = producers }

-- a planning call answers the word of its outcome's answer, and leaves the outcome's buffers
pub record Plans (o : Outcome) (word : ℕ) (producers ranks readers work : List ℕ) : Type 0 where
  pub word_is : word ≡ planning_word o.answer
  pub producers_are : producers ≡ o.producers
  pub ranks_are : ranks ≡ o.ranks
  pub readers_are : readers ≡ o.readers
  pub work_is : work ≡ o.work

-- so does a check
pub record Checks (o : checks.Outcome) (word : ℕ) (kept : List ℕ) : Type 0 where
  pub word_is : word ≡ check_word o.answer
  pub kept_is : kept ≡ o.words
