-- The listed words of each lent buffer, and a series of calls in which what is past them may differ from call to call.
-- Assumes nothing.
use Rattle.std.specs.Prelude.{ℕ, ◌*◌, ◌≡◌, List, [], ◌∷◌, ◌++◌, take, drop}
use Rattle.readers.specs.ReaderTable.{reader_words}
use Rattle.kept.specs.Tables.{Tables, node_count, root_count}
use Rattle.kept.specs.Layout.{listed}
use Rattle.kept.specs.Candidate.{Candidate, listed_words}
use Rattle.kept.specs.Outcome.{Outcome, outcome}

-- ---- the listed words

-- the tables, of each buffer as many words as it must have
abbrev pub listed_tables : Tables → Tables
listed_tables T =
    record {
      counts = T.counts;
      plan = T.plan;
      made = T.made;
      nodes = take (3 * node_count T) T.nodes;
      operands = take T.counts.operands T.operands;
      roots = take (root_count T) T.roots;
      producers = take (4 * root_count T) T.producers;
      readers = take (reader_words T.counts) T.readers;
    }

-- the candidate, of its words those for the atoms
abbrev pub listed_candidate : Tables → Candidate → Candidate
listed_candidate T c = record { stamp = c.stamp; words = listed_words T c }

-- the listed words among those of the kept evaluation
abbrev pub listed_kept : Tables → List ℕ → List ℕ
listed_kept T ws = take (listed T) ws

-- ---- lent buffers that differ at most past the listed words

-- two lent tables: equal counts, plan stamp and number of producers, and equal listed words in each buffer
abbrev pub SameTables : Tables → Tables → Type 0
SameTables T U = listed_tables T ≡ listed_tables U

-- two candidates: equal stamps and equal listed words
abbrev pub SameCandidate : Tables → Candidate → Candidate → Type 0
SameCandidate T c d = listed_candidate T c ≡ listed_candidate T d

-- the words of two kept evaluations: equal listed words
abbrev pub SameKept : Tables → List ℕ → List ℕ → Type 0
SameKept T ws vs = listed_kept T ws ≡ listed_kept T vs

-- two outcomes, o on the words ws: the same answer and the same listed words after it; o leaves those past them as they are in ws
pub record SameOutcome (T : Tables) (ws : List ℕ) (o p : Outcome) : Type 0 where
  pub answer : o.answer ≡ p.answer
  pub words : SameKept T o.words p.words
  pub past : drop (listed T) o.words ≡ drop (listed T) ws

-- ---- a series of calls, each with its own buffers

-- one call: its tables, its candidate, and what stands past the listed words of the kept evaluation
pub record Call : Type 0 where
  pub tables : Tables
  pub candidate : Candidate
  pub past : List ℕ

-- it checks candidate c by the tables T, but for what is past the listed words
abbrev pub Checks : Tables → Call → Candidate → Type 0
Checks T k c = SameTables T k.tables × SameCandidate T c k.candidate

-- as many calls as candidates, each the check of the candidate at its place
abbrev pub AllCheck : Tables → List Call → List Candidate → Type 0
AllCheck T [] [] = Unit {0}
AllCheck T [] (c ∷ cs) = ⊥
AllCheck T (k ∷ ks) [] = ⊥
AllCheck T (k ∷ ks) (c ∷ cs) = Checks T k c × AllCheck T ks cs

-- the words that a call is lent: the listed ones that the last call left, ws, then its own
abbrev pub lent_to : Tables → Call → List ℕ → List ℕ
lent_to T k ws = listed_kept T ws ++ k.past

module _ (floor divisor : ℕ) (T : Tables) where
  -- the outcome of a call
  abbrev pub called : Call → List ℕ → Outcome
  called k ws = outcome floor divisor k.tables k.candidate (lent_to T k ws)

  -- the words after all calls of a series
  unfoldable pub called_words : List ℕ → List Call → List ℕ
  called_words ws [] = ws
  called_words ws (k ∷ ks) = called_words (called k ws).words ks
