-- Words of a type X as numbers below 2 ^ w, one by one and as a list.
-- Assumes nothing.
use Rattle.std.specs.Prelude.{ℕ, ◌<◌, ◌≤◌, ◌≡◌, refl, List, length, get_or}
use Rattle.std.proofs.lemmas.List.{get_or_default}

pub record WordLaws {X : Type 0} (w : ℕ) (number : X → ℕ) (numbers : List X → List ℕ) : Type 0 where
  pub least : 32 ≤ w
  pub most : w ≤ 64
  pub as_many : (ws : List X) → length (numbers ws) ≡ length ws
  pub each : (ws : List X) (k : ℕ) (d : X) → k < length ws → get_or (numbers ws) k 0 ≡ number (get_or ws k d)

-- a number is itself
pub plain : (w : ℕ) → 32 ≤ w → w ≤ 64 → WordLaws {X = ℕ} w (λ x. x) (λ ws. ws)
plain w p m = record { least = p; most = m; as_many = λ ws. refl; each = λ ws k d h. get_or_default ws k 0 d h }
