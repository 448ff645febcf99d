-- Sets of numbers as lists of words of w bits: i is digit i % w of word i / w.
-- Assumes nothing.
use Rattle.std.specs.Prelude.{ℕ, ◌/◌, ◌%◌, ◌^◌, Bool, List, get_or, set}
use Rattle.std.specs.Int.Bits.{bit_or, bit_xor}
use Rattle.words.specs.Bit.{bit}

-- i is in the set
unfoldable pub member : ℕ → List ℕ → ℕ → Bool
member w ws i = bit (get_or ws (i / w) 0) (i % w)

-- the words with i put in
unfoldable pub inserted : ℕ → List ℕ → ℕ → List ℕ
inserted w ws i = set ws (i / w) (bit_or (get_or ws (i / w) 0) (2 ^ (i % w)))

-- the words with i taken out
unfoldable pub removed : ℕ → List ℕ → ℕ → List ℕ
removed w ws i = set ws (i / w) (bit_xor (bit_or (get_or ws (i / w) 0) (2 ^ (i % w))) (2 ^ (i % w)))
