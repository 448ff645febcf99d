-- The lent buffers of a check by their lengths alone.
-- Assumes nothing.
use Rattle.std.specs.Prelude.{ℕ, ◌+◌, ◌*◌, ◌≡◌, List, [], ◌∷◌, length}
use Rattle.theory.specs.declared.Counts.{Counts}
use Rattle.readers.specs.ReaderTable.{reader_words}
use Rattle.kept.specs.SetOf.{words64}
use Rattle.kept.specs.Tables.{Tables}
use Rattle.kept.specs.Tests.{Buffer, buffer}
use Rattle.tests.specs.declared.Lengths.{Lengths}

-- the listed length of lent buffer 7
abbrev pub listed_by : Counts → ℕ
listed_by t = 16 + 2 * t.nodes + 3 * t.atoms + t.roots

abbrev pub buffers_by : Counts → Lengths → List Buffer
buffers_by t l =
    buffer 0 (words64 t.atoms) l.candidate
    ∷ buffer 1 (3 * t.nodes) l.nodes
    ∷ buffer 2 t.operands l.operands
    ∷ buffer 3 t.roots l.roots
    ∷ buffer 4 (4 * t.roots) l.producers
    ∷ buffer 6 (reader_words t) l.readers
    ∷ buffer 7 (listed_by t) l.kept
    ∷ []

-- T has these counts, this plan stamp, and tables of these lengths
pub record Sizes (T : Tables) (t : Counts) (plan : ℕ) (l : Lengths) : Type 0 where
  pub counts : T.counts ≡ t
  pub stamp : T.plan ≡ plan
  pub nodes : length T.nodes ≡ l.nodes
  pub operands : length T.operands ≡ l.operands
  pub roots : length T.roots ≡ l.roots
  pub producers : length T.producers ≡ l.producers
  pub readers : length T.readers ≡ l.readers
