-- The sections of the work area, before and after a store.
-- Assumes nothing.
use Prim.Native.Nat.{ℕ, suc, ◌+◌, ◌-◌, ◌≤◌, ◌<◌, ◌*◌}
use native.Mathlib.Omega.{arith}
use mathlib.Core.Path.{◌≡◌, ap, ◌∙◌, refl}
use mathlib.Core.List.{List, [], ◌∷◌, ◌++◌}
use lib.ListN.{length, get_or, set, take, drop, length-drop}
use lib.Seq.{drop-set-add, take-set-lt, drop-set-lt, take-set-le, take-suc-set, get_or-take, get_or-drop, length-take-le}
use Rattle.kahn.specs.Area.{part, state_in}

module _ (b k : ℕ) (area : List ℕ) where
  pub part_at : (i : ℕ) → i < k → get_or (part b k area) i 0 ≡ get_or area (b + i) 0
  part_at i l = get_or-take k (drop b area) i 0 l ∙ get_or-drop b area i 0

  pub part_long : b + k ≤ length area → length (part b k area) ≡ k
  part_long l = length-take-le k (drop b area) (omega (arith, length-drop b area))

  pub part_in : (i x : ℕ) → i < k → part b k (set area (b + i) x) ≡ set (part b k area) i x
  part_in i x l = ap (take k) (drop-set-add b area i x) ∙ take-set-lt k (drop b area) i x l

  pub part_below : (j x : ℕ) → j < b → part b k (set area j x) ≡ part b k area
  part_below j x l = ap (take k) (drop-set-lt b area j x l)

  pub part_above : (j x : ℕ) → b + k ≤ j → part b k (set area j x) ≡ part b k area
  part_above j x l =
      let e : j ≡ b + (j - b) = omega arith in
      ap (λ i. part b k (set area i x)) e ∙ ap (take k) (drop-set-add b area (j - b) x) ∙ take-set-le k (drop b area) (j - b) x (omega arith)

  pub part-push : (x : ℕ) → b + k < length area → part b (suc k) (set area (b + k) x) ≡ part b k area ++ (x ∷ [])
  part-push x l = ap (take (suc k)) (drop-set-add b area k x) ∙ take-suc-set (drop b area) k x (omega (arith, length-drop b area))

-- a part's words are those of the area
module _ (n q : ℕ) (area : List ℕ) (long : 4 * n ≤ length area) (few : q ≤ n) where
  pub queue_long : length (state_in n q area).queue ≡ q
  unfolding state_in
  queue_long = part_long (3 * n) q area (omega arith)

  pub degree_in : (v : ℕ) → v < n → get_or (state_in n q area).degrees v 0 ≡ get_or area (n + v) 0
  unfolding state_in
  degree_in v l = part_at n n area v l

  pub rank_in : (v : ℕ) → v < n → get_or (state_in n q area).ranks v 0 ≡ get_or area (2 * n + v) 0
  unfolding state_in
  rank_in v l = part_at (2 * n) n area v l

  pub queue_in : (c : ℕ) → c < q → get_or (state_in n q area).queue c 0 ≡ get_or area (3 * n + c) 0
  unfolding state_in
  queue_in c l = part_at (3 * n) q area c l

module _ (n q : ℕ) (area : List ℕ) where
  pub state_queue : (state_in n q area).queue ≡ part (3 * n) q area
  unfolding state_in
  state_queue = refl

  pub state_degrees : (state_in n q area).degrees ≡ part n n area
  unfolding state_in
  state_degrees = refl

  pub state_ranks : (state_in n q area).ranks ≡ part (2 * n) n area
  unfolding state_in
  state_ranks = refl
