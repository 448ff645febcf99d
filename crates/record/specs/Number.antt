-- The numbers of a file: four bytes each, low byte first.
-- Assumes nothing.
use Rattle.std.specs.Prelude.{ℕ, zero, suc, ◌+◌, ◌*◌, List, [], ◌∷◌, get_or}

unfoldable pub number : List ℕ → ℕ → ℕ
number file at = get_or file at 0 + 256 * get_or file (at + 1) 0 + 65536 * get_or file (at + 2) 0 + 16777216 * get_or file (at + 3) 0

-- so many numbers from the place `at` on
unfoldable pub numbers : List ℕ → ℕ → ℕ → List ℕ
numbers file at zero = []
numbers file at (suc n) = number file at ∷ numbers file (at + 4) n
