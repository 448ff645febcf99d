-- A candidate: its atoms as a set of words of 64 bits.
-- Assumes nothing.
use Rattle.std.specs.Prelude.{ℕ, zero, suc, ◌+◌, ◌/◌, ◌≤◌, ◌≡◌, Bool, true, false, ◌||◌, List, [], ◌∷◌, eqb, length, replicate}
use Rattle.theory.specs.Admission.{all_below}
use Rattle.record.specs.Layout.{record_end, values_of}
use Rattle.record.specs.declared.Mark.TheVariants.{Candidate}
use Rattle.file_reader.specs.Insert.{inserted_all}

-- the words that so many atoms take
abbrev pub word_count : ℕ → ℕ
word_count atoms = (atoms + 63) / 64

unfoldable pub candidate_words : ℕ → List ℕ → List ℕ
candidate_words atoms vs = inserted_all (replicate (word_count atoms) 0) vs

-- a is one of them
unfoldable pub among : ℕ → List ℕ → Bool
among a [] = false
among a (b ∷ bs) = eqb b a || among a bs

-- a whole candidate over so many atoms begins at `at`
pub record CandidateAt (file : List ℕ) (atoms at : ℕ) : Type 0 where
  pub whole : record_end file at Candidate ≤ length file
  pub below : all_below atoms (values_of file at Candidate) ≡ true

-- the place of candidate i, the first one at `first`
unfoldable pub place_of : List ℕ → ℕ → ℕ → ℕ
place_of file first zero = first
place_of file first (suc i) = record_end file (place_of file first i) Candidate
