-- The records of a theory file as bytes, by document 01's "The theory and its file": a mark in ASCII and numbers.
-- Assumes nothing.
use Rattle.std.specs.Prelude.{ℕ, ◌/◌, ◌%◌}
use mathlib.Core.List.{List, [], ◌∷◌, ◌++◌, flat_map}

-- four bytes, low byte first
abbrev number : ℕ → List ℕ
number n = n % 256 ∷ n / 256 % 256 ∷ n / 65536 % 256 ∷ n / 16777216 ∷ []

abbrev bytes : ℕ → ℕ → List ℕ → List ℕ
bytes x y ns = x ∷ y ∷ flat_map number ns

abbrev pub Th : List ℕ → List ℕ
Th ns = bytes 84 72 ns

abbrev pub NA : List ℕ → List ℕ
NA ns = bytes 78 65 ns

abbrev pub NF : List ℕ
NF = bytes 78 70 []

abbrev pub NI : List ℕ → List ℕ
NI ns = bytes 78 73 ns

abbrev pub NC : List ℕ → List ℕ
NC ns = bytes 78 67 ns

abbrev pub ND : List ℕ → List ℕ
ND ns = bytes 78 68 ns

abbrev pub RT : List ℕ → List ℕ
RT ns = bytes 82 84 ns

abbrev pub CA : List ℕ → List ℕ
CA ns = bytes 67 65 ns

-- Th 7 2 and the nodes of document 01's example
abbrev pub example_file : List ℕ
example_file = Th (7 ∷ 2 ∷ []) ++ NA (0 ∷ []) ++ NA (1 ∷ []) ++ NI (0 ∷ 1 ∷ []) ++ NF ++ NI (0 ∷ 3 ∷ []) ++ ND (2 ∷ 0 ∷ 4 ∷ [])
