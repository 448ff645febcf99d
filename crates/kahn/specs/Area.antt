-- The work area of n vertices and m edges, section after section: the first link of a vertex, its degree, its rank, the queue (n words each);
-- the target of an edge and its next link (m words each).
-- Assumes nothing.
use Rattle.std.specs.Prelude.{ℕ, ◌+◌, ◌*◌, ◌<◌, ◌≤◌, ◌≡◌, List, length, get_or, take, drop}
use Rattle.graph.specs.Removal.{State}

pub record Sized (n m : ℕ) (area : List ℕ) : Type 0 where
  pub vertices : n ≤ 327680
  pub edges : m ≤ 1572864
  pub long : 4 * n + 2 * m ≤ length area

-- the k words from b on
abbrev pub part : ℕ → ℕ → List ℕ → List ℕ
part b k area = take k (drop b area)

-- the state of the removal, with q vertices queued
unfoldable pub state_in : ℕ → ℕ → List ℕ → State
state_in n q area = record { degrees = part n n area; ranks = part (2 * n) n area; queue = part (3 * n) q area }

-- nothing but degrees, ranks and queue is altered
pub record LinksKept (n : ℕ) (before after : List ℕ) : Type 0 where
  pub long : length after ≡ length before
  pub first : (k : ℕ) → k < n → get_or after k 0 ≡ get_or before k 0
  pub edges : (k : ℕ) → 4 * n ≤ k → get_or after k 0 ≡ get_or before k 0
