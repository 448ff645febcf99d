-- The tests of a check before 17: 3 by counts, 9, 15, 16.
-- Assumes nothing.
use Rattle.std.specs.Prelude.{ℕ, ◌*◌, cond, ◌&&◌, List, [], ◌∷◌, eqb, ltb, length, Err}
use Rattle.theory.specs.Admission.{or_else, Admission, admitted}
use Rattle.theory.specs.Limits.{limits_of}
use Rattle.theory.specs.declared.Refusal.TheVariants.{ShortBuffer, ForeignStamp, StrayBit}
use Rattle.words.specs.Next.{next}
use Rattle.readers.specs.ReaderTable.{reader_words}
use Rattle.kept.specs.SetOf.{words64}
use Rattle.kept.specs.Tables.{Tables, atom_count, node_count, root_count}
use Rattle.kept.specs.Layout.{listed}
use Rattle.kept.specs.Candidate.{Candidate, listed_words}

-- a lent buffer: its number, its least and its lent length
pub record Buffer : Type 0 where
  pub number : ℕ
  pub least : ℕ
  pub lent : ℕ

abbrev pub buffer : ℕ → ℕ → ℕ → Buffer
buffer number least lent = record { number = number; least = least; lent = lent }

-- `size` is the length of the lent words of the kept evaluation
abbrev pub buffers : Tables → Candidate → ℕ → List Buffer
buffers T c size =
    buffer 0 (words64 (atom_count T)) (length c.words)
    ∷ buffer 1 (3 * node_count T) (length T.nodes)
    ∷ buffer 2 T.counts.operands (length T.operands)
    ∷ buffer 3 (root_count T) (length T.roots)
    ∷ buffer 4 (4 * root_count T) (length T.producers)
    ∷ buffer 6 (reader_words T.counts) (length T.readers)
    ∷ buffer 7 (listed T) size
    ∷ []

-- 9: the first that is too short
unfoldable pub first_short : List Buffer → Admission
first_short [] = admitted
first_short (b ∷ bs) = cond (ltb b.lent b.least) (Err (ShortBuffer b.number)) (first_short bs)

-- 15
unfoldable pub stamps : Tables → Candidate → Admission
stamps T c = cond (eqb c.stamp T.counts.stamp && eqb T.plan T.counts.stamp) admitted (Err ForeignStamp)

-- 16: the lowest bit at or above `atoms`
unfoldable pub stray_bit : Tables → Candidate → Admission
stray_bit T c =
    cond (ltb (next 64 (listed_words T c) (atom_count T)) (64 * length (listed_words T c))) (Err (StrayBit (next 64 (listed_words T c) (atom_count T)))) admitted

-- 3, 9, 15, 16
unfoldable pub tests : Tables → Candidate → ℕ → Admission
tests T c size = or_else (limits_of T.counts) (or_else (first_short (buffers T c size)) (or_else (stamps T c) (stray_bit T c)))
