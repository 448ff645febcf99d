-- What demand 3 says of the tables that a check is lent after an accepted planning call.
-- Assumes nothing.
use Rattle.std.specs.Prelude.{ℕ, List}
use Rattle.kept.specs.Tables.{Tables}
use Rattle.kept.specs.Candidate.{Candidate}
use Rattle.kept.specs.Outcome.{outcome}
use Rattle.kept.specs.PlainWalk.{PlainWalk}
use Rattle.kept.specs.Series as kept
use Rattle.kept.specs.Series.{zeroed_words, series_words}
use Rattle.kept_laws.specs.Listed.{SameOutcome, Call, Checks, AllCheck, lent_to, called, called_words}

-- for any figures of when to start afresh; 64 and 8 are document 01's
pub record Demand3 (T : Tables) : Type 0 where
  -- every series of checks, refused ones included
  pub series : (floor divisor : ℕ) (past : List ℕ) (cs : List Candidate) → kept.Demand3 floor divisor T past cs
  -- document 01's sentences on the walk
  pub walk : PlainWalk T
  -- after any calls whose buffers have the same listed words, whatever stands past them, the next call's outcome is that of the series
  pub any_past : (floor divisor : ℕ) (past other : List ℕ) (ks : List Call) (cs : List Candidate) → AllCheck T ks cs → (k : Call) (c : Candidate) → Checks T k c
      → SameOutcome T (lent_to T k (called_words floor divisor T (zeroed_words T past) ks)) (called floor divisor T k (called_words floor divisor T (zeroed_words T past) ks))
      (outcome floor divisor T c (series_words floor divisor T (zeroed_words T other) cs))
