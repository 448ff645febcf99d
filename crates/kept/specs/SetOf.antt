-- The words of a set given by a test, in u32 words.
-- Assumes nothing.
use Rattle.std.specs.Prelude.{ℕ, ◌+◌, ◌/◌, Bool, List, [], ◌∷◌, replicate}
use Rattle.base.specs.Places.{places}
use Rattle.words.specs.Sets.{inserted}

-- how many words hold n places
abbrev pub words32 : ℕ → ℕ
words32 n = (n + 31) / 32

abbrev pub words64 : ℕ → ℕ
words64 n = (n + 63) / 64

unfoldable pub all_inserted : List ℕ → List ℕ → List ℕ
all_inserted ws [] = ws
all_inserted ws (i ∷ is) = all_inserted (inserted 32 ws i) is

-- the places below n at which f holds
unfoldable pub set_of : (ℕ → Bool) → ℕ → List ℕ
set_of f n = all_inserted (replicate (words32 n) 0) (places f 0 n)
