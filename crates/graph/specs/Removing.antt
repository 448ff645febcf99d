-- What holds between the steps of Kahn's removal, and at its end.
-- Assumes nothing.
use Rattle.std.specs.Prelude.{ℕ, ◌+◌, ◌≤◌, ◌<◌, max, ◌≡◌, Bool, true, false, List, [], ◌∷◌, eqb, ltb, length, get_or, take}
use Rattle.graph.specs.Edge.{Edge, one}
use Rattle.graph.specs.Removed.{remaining, removed}
use Rattle.graph.specs.Depth.{peak, every, depth}
use Rattle.graph.specs.Removal.{State}

-- how often v stands in a list
unfoldable pub times : ℕ → List ℕ → ℕ
times v [] = 0
times v (x ∷ xs) = one (eqb v x) + times v xs

abbrev pub has : List ℕ → ℕ → Bool
has xs v = ltb 0 (times v xs)

abbrev pub none : ℕ → Bool
none v = false

-- the first c vertices of the queue are taken out, and of the last one's edges zs are still to be gone over
pub record Removing (A : ℕ) (es : List Edge) (n c : ℕ) (zs : List Edge) (s : State) : Type 0 where
  pub degrees_long : length s.degrees ≡ n
  pub ranks_long : length s.ranks ≡ n
  pub reached : c ≤ length s.queue
  pub degree : (v : ℕ) → v < n → get_or s.degrees v 0 ≡ remaining (has (take c s.queue)) v es + remaining none v zs
  pub rank : (v : ℕ) → v < n → max (get_or s.ranks v 0) (peak A every (depth A es n) v zs) ≡ peak A (has (take c s.queue)) (depth A es n) v es
  pub once : (v : ℕ) → v < n → times v s.queue ≡ one (eqb (get_or s.degrees v 0) 0)
  pub vertices : (v : ℕ) → n ≤ v → times v s.queue ≡ 0
  pub rounds : (u : ℕ) → has (take c s.queue) u ≡ true → removed es c u ≡ true

-- nothing is left to go over: a degree is 0 exactly if its vertex was removed, and then its rank is its depth
pub record Ended (A : ℕ) (es : List Edge) (n : ℕ) (s : State) : Type 0 where
  pub ranks_long : length s.ranks ≡ n
  pub left : (v : ℕ) → v < n → eqb (get_or s.degrees v 0) 0 ≡ removed es n v
  pub ranked : (v : ℕ) → v < n → removed es n v ≡ true → get_or s.ranks v 0 ≡ depth A es n v
