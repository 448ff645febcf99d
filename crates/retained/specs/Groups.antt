-- The groups of a worklist's words inside the lent words.
-- Assumes nothing.
use Rattle.std.specs.Prelude.{ℕ, false, cond, List, eqb}
use Rattle.retained.specs.Member.{bit_put}

-- word q out of them if what is left of it is 0
unfoldable pub regrouped : ℕ → ℕ → ℕ → List ℕ → List ℕ
regrouped at q rest ws = cond (eqb rest 0) (bit_put at q false ws) ws
