-- A list of numbers is strictly rising.
-- Assumes nothing.
use Rattle.std.specs.Prelude.{ℕ, Bool, true, ◌&&◌, List, [], ◌∷◌, ltb}

-- each above the one before it, the first above x
unfoldable pub rising_from : ℕ → List ℕ → Bool
rising_from x [] = true
rising_from x (y ∷ ys) = ltb x y && rising_from y ys

unfoldable pub rising : List ℕ → Bool
rising [] = true
rising (x ∷ xs) = rising_from x xs
