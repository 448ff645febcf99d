-- Words of a list that are 0.
-- Assumes nothing.
use Rattle.std.specs.Prelude.{ℕ, ◌<◌, ◌≤◌, ◌≡◌, List, get_or}

-- the words from a up to e are 0
abbrev pub AllZero : List ℕ → ℕ → ℕ → Type 0
AllZero ws a e = (k : ℕ) → a ≤ k → k < e → get_or ws k 0 ≡ 0
