-- The atoms of a candidate put into a set of words of 64 bits.
-- Assumes nothing.
use Rattle.std.specs.Prelude.{ℕ, ◌/◌, ◌<◌, ◌≤◌, List, [], ◌∷◌, length}
use Rattle.base.specs.Each.{Each}
use Rattle.words.specs.Sets.{inserted}
use Rattle.record.specs.Layout.{record_end, values_of}
use Rattle.record.specs.declared.Mark.TheVariants.{Candidate}

-- the words with each of these put in
unfoldable pub inserted_all : List ℕ → List ℕ → List ℕ
inserted_all ws [] = ws
inserted_all ws (a ∷ as') = inserted_all (inserted 64 ws a) as'

-- a whole candidate begins at `at`, and so many words have room for its atoms
pub record Fitting (file : List ℕ) (at n : ℕ) : Type 0 where
  pub whole : record_end file at Candidate ≤ length file
  pub room : Each (λ a. a / 64 < n) (values_of file at Candidate)
