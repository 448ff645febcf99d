-- A lent candidate and its atoms.
-- Assumes nothing.
use Rattle.std.specs.Prelude.{ℕ, List, take}
use Rattle.formula.specs.Satisfaction.{Interpretation}
use Rattle.words.specs.Sets.{member}
use Rattle.kept.specs.SetOf.{words64}
use Rattle.kept.specs.Tables.{Tables, atom_count}

-- a lent candidate: its stamp, and u64 words of which the first for the atoms count
pub record Candidate : Type 0 where
  pub stamp : ℕ
  pub words : List ℕ

abbrev pub listed_words : Tables → Candidate → List ℕ
listed_words T c = take (words64 (atom_count T)) c.words

-- atom a is in it if bit a is set
unfoldable pub atoms_of : Tables → Candidate → Interpretation
atoms_of T c a = member 64 (listed_words T c) a
