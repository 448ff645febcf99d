-- A number in decimal digits, ASCII, the highest first.
-- Assumes nothing.
use Rattle.std.specs.Prelude.{ℕ, zero, suc, ◌+◌, ◌-◌, ◌*◌, ◌/◌, ◌%◌, ◌≤◌, ◌<◌, cond, List, [], ◌∷◌, ◌++◌, ltb}

-- of at most so many digits
unfoldable pub digits : ℕ → ℕ → List ℕ
digits zero n = []
digits (suc most) n = cond (ltb n 10) ((48 + n) ∷ []) (digits most (n / 10) ++ ((48 + n % 10) ∷ []))

-- enough for 64 bits
unfoldable pub decimal : ℕ → List ℕ
decimal n = digits 20 n

-- a byte that is an ASCII digit
abbrev pub Digit : ℕ → Type 0
Digit b = (48 ≤ b) × (b < 58)

-- what ASCII digits say in base ten, after digits that say n
unfoldable pub value_after : ℕ → List ℕ → ℕ
value_after n [] = n
value_after n (d ∷ ds) = value_after (10 * n + (d - 48)) ds

unfoldable pub value : List ℕ → ℕ
value ds = value_after 0 ds
