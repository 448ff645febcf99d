-- The whole outcome of a check: its answer, and every word of the kept evaluation that it is lent.
-- Assumes nothing.
use Rattle.std.specs.Prelude.{ℕ, List, ◌++◌, length, drop, replicate, Ok, Err}
use Rattle.theory.specs.declared.Refusal.{Refusal}
use Rattle.kept.specs.Tables.{Tables}
use Rattle.kept.specs.Verdict.{Verdict}
use Rattle.kept.specs.Layout.{of_words, written, listed}
use Rattle.kept.specs.Check as check
use Rattle.kept.specs.Candidate.{Candidate, atoms_of}
use Rattle.kept.specs.Tests.{tests}
use Rattle.theory.specs.Admission.{Admission}

pub data Answer : Type 0 where
  accepted : Verdict → ℕ → Answer
  refused : Refusal → Answer

-- the answer, and the words after it
pub record Outcome : Type 0 where
  pub answer : Answer
  pub words : List ℕ

-- the listed words 0, those past them as they are
unfoldable pub cleared : Tables → List ℕ → List ℕ
cleared T ws = replicate (listed T) 0 ++ drop (listed T) ws

-- an accepted check writes its evaluation; 17 clears the words
abbrev pub concluded : Tables → List ℕ → check.Result → Outcome
concluded T ws (check.accepted v n e) = record { answer = accepted v n; words = written T ws e }
concluded T ws (check.refused r) = record { answer = refused r; words = cleared T ws }

module _ (floor divisor : ℕ) where
  unfoldable pub outcome_at : Tables → Candidate → List ℕ → Admission → Outcome
  outcome_at T c ws (Err r) = record { answer = refused r; words = ws }
  outcome_at T c ws (Ok u) = concluded T ws (check.result floor divisor T (atoms_of T c) (of_words T ws))

  -- of a check of candidate c by the tables T, with the words ws lent for the kept evaluation
  unfoldable pub outcome : Tables → Candidate → List ℕ → Outcome
  outcome T c ws = outcome_at T c ws (tests T c (length ws))
