-- Blocks of operands.
-- Assumes nothing.
use Rattle.std.specs.Prelude.{ℕ, ◌<◌, ◌≤◌, ◌≡◌, Bool, List, get_or}
use Rattle.node_truth.specs.InWords.{true_in}

-- the operands from a up to e are below k
abbrev pub AllBelow : List ℕ → ℕ → ℕ → ℕ → Type 0
AllBelow operands k a e = (i : ℕ) → a ≤ i → i < e → get_or operands i 0 < k

-- the operands from a up to e have truth t
abbrev pub AllAre : List ℕ → List ℕ → Bool → ℕ → ℕ → Type 0
AllAre operands kept t a e = (i : ℕ) → a ≤ i → i < e → true_in kept (get_or operands i 0) ≡ t
