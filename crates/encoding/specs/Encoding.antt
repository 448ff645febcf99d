-- The bytes of a theory file, as document 01 lays them out.
-- Assumes nothing.
use Rattle.std.specs.Prelude.{ℕ, ◌/◌, ◌%◌, length}
use mathlib.Core.List.{List, [], ◌∷◌, ◌++◌, flat_map}
use Rattle.encoding.specs.Value.{Node, Atom, False, Implies, And, Or, TheoryFile}

-- a number: four bytes, low byte first
unfoldable pub number_bytes : ℕ → List ℕ
number_bytes n = n % 256 ∷ n / 256 % 256 ∷ n / 65536 % 256 ∷ n / 16777216 % 256 ∷ []

-- a record: the two letters of its mark, then its numbers
unfoldable pub record_bytes : ℕ → ℕ → List ℕ → List ℕ
record_bytes x y ns = x ∷ y ∷ flat_map number_bytes ns

-- a node: NA atom, NF, NI left right, NC and ND count and operands
unfoldable pub node_bytes : Node → List ℕ
node_bytes (Atom a) = record_bytes 78 65 (a ∷ [])
node_bytes False = record_bytes 78 70 []
node_bytes (Implies l r) = record_bytes 78 73 (l ∷ r ∷ [])
node_bytes (And os) = record_bytes 78 67 (length os ∷ os)
node_bytes (Or os) = record_bytes 78 68 (length os ∷ os)

-- a root: RT node
unfoldable pub root_bytes : ℕ → List ℕ
root_bytes r = record_bytes 82 84 (r ∷ [])

-- a candidate: CA count and atoms
unfoldable pub candidate_bytes : List ℕ → List ℕ
candidate_bytes xs = record_bytes 67 65 (length xs ∷ xs)

-- the part before the candidates: TH stamp atoms, the nodes, the roots
unfoldable pub theory_bytes : TheoryFile → List ℕ
theory_bytes f = record_bytes 84 72 (f.stamp ∷ f.atoms ∷ []) ++ flat_map node_bytes f.nodes ++ flat_map root_bytes f.roots

-- the whole file
unfoldable pub encoded : TheoryFile → List ℕ
encoded f = theory_bytes f ++ flat_map candidate_bytes f.candidates
