-- The queue of the vertices whose degree is 0.
-- Assumes nothing.
use Rattle.std.specs.Prelude.{ℕ, ◌+◌, ◌*◌, ◌<◌, ◌≤◌, ◌≡◌, cond, List, eqb, length, get_or, set}
use Rattle.base.specs.Places.{places}
use Rattle.kahn.specs.Area.{part}

-- v is queued behind q others if its degree is 0: the area, and how many are queued
unfoldable pub pushing : ℕ → ℕ → ℕ → List ℕ → List ℕ
pushing n q v area = cond (eqb (get_or area (n + v) 0) 0) (set area (3 * n + q) v) area

unfoldable pub pushed : ℕ → ℕ → ℕ → List ℕ → ℕ
pushed n q v area = cond (eqb (get_or area (n + v) 0) 0) (q + 1) q

-- the q queued vertices are those below v whose degree is 0, and no word outside the queue is altered
pub record Seeding (n v q : ℕ) (before after : List ℕ) : Type 0 where
  pub long : length after ≡ length before
  pub low : (k : ℕ) → k < 3 * n → get_or after k 0 ≡ get_or before k 0
  pub high : (k : ℕ) → 4 * n ≤ k → get_or after k 0 ≡ get_or before k 0
  pub few : q ≤ v
  pub queue : part (3 * n) q after ≡ places (λ u. eqb (get_or before (n + u) 0) 0) 0 v
