-- Laws of the edges left over and of the rounds: as many rounds as there are vertices are enough.
-- Assumes nothing.
use Prim.Native.Nat.{ℕ, zero, suc, ◌+◌, ◌≤◌, ◌<◌}
use native.Mathlib.Omega.{arith}
use native.Mathlib.Decide.{le_ind}
use mathlib.Core.Path.{◌≡◌, refl, sym, ◌∙◌}
use mathlib.Core.Logic.{◌⊎◌, inl, inr, ⊎_elim}
use mathlib.Core.Bool.{Bool, true, false, not, ◌&&◌, false≢true}
use mathlib.Core.List.{List, [], ◌∷◌, ◌++◌}
use lib.Dec.{eqb}
use borrow.Author.Tests.{eqb-true, eq-eqb, not-true}
use Rattle.base.specs.Tests.{both_left, both_right, below_or}
use Rattle.base.specs.Each.{Each, each_all, each_map}
use Rattle.base.specs.Places.{count, lowest, Lowest, lowest_is, count_less, count_most}
use Rattle.graph.specs.Edge.{Edge, one}
use Rattle.graph.specs.Removed.{remaining, removed}

one_left : (d a b : Bool) → (a ≡ true → b ≡ true) → one (d && not b) ≤ one (d && not a)
one_left false a b h = omega arith
one_left true true b h = rw (h refl) (omega arith)
one_left true false true h = omega arith
one_left true false false h = omega arith

pub remaining_mono : (p q : ℕ → Bool) (v : ℕ) (es : List Edge) → Each (λ e. p e.source ≡ true → q e.source ≡ true) es → remaining q v es ≤ remaining p v es
unfolding remaining
remaining_mono p q v [] h = omega arith
remaining_mono p q v (e ∷ es) h =
    omega (arith, one_left (eqb e.target v) (p e.source) (q e.source) h.0, remaining_mono p q v es h.1)

pub remaining-append : (p : ℕ → Bool) (v : ℕ) (xs ys : List Edge) → remaining p v (xs ++ ys) ≡ remaining p v xs + remaining p v ys
unfolding remaining
remaining-append p v [] ys = omega arith
remaining-append p v (x ∷ xs) ys = omega (arith, remaining-append p v xs ys)

-- none are left over exactly if each edge into v comes from p
pub remaining_none : (p : ℕ → Bool) (v : ℕ) (es : List Edge) → Each (λ e. e.target ≡ v → p e.source ≡ true) es → remaining p v es ≡ 0
unfolding remaining
remaining_none p v [] h = refl
remaining_none p v (e ∷ es) h = omega (arith, go (eqb e.target v) refl, remaining_none p v es h.1)
  where
    go : (c : Bool) → eqb e.target v ≡ c → one (eqb e.target v && not (p e.source)) ≡ 0
    go true i = rw (i, h.0 (eqb-true e.target v i))
    go false i = rw i

pub none_remaining : (p : ℕ → Bool) (v : ℕ) (es : List Edge) → remaining p v es ≡ 0 → Each (λ e. e.target ≡ v → p e.source ≡ true) es
unfolding remaining
none_remaining p v [] z = tt
none_remaining p v (e ∷ es) z = (λ i. go (p e.source) refl i, none_remaining p v es (omega arith))
  where
    go : (c : Bool) → p e.source ≡ c → e.target ≡ v → p e.source ≡ true
    go true j i = j
    go false j i =
        let o : one (eqb e.target v && not (p e.source)) ≡ 1 = rw (eq-eqb e.target v i, j) in
        absurd (omega arith)

module _ (es : List Edge) where
  pub removed_more : (k v : ℕ) → removed es k v ≡ true → removed es (suc k) v ≡ true
  unfolding removed
  removed_more zero v r = absurd (false≢true r)
  removed_more (suc k) v r =
      eq-eqb (remaining (removed es (suc k)) v es) 0
      (omega (
        arith,
        remaining_mono (removed es k) (removed es (suc k)) v es (each_all _ es (λ e. removed_more k e.source)),
        eqb-true (remaining (removed es k) v es) 0 r,
      ))

  pub removed_late : (n k v : ℕ) → k ≤ n → removed es k v ≡ true → removed es n v ≡ true
  removed_late n k v l r = le_ind (λ m. removed es m v ≡ true) r (λ m i q. removed_more m v q) n l

  -- what goes next has all its predecessors taken out
  pub removed_next : (k v : ℕ) → Each (λ e. e.target ≡ v → removed es k e.source ≡ true) es → removed es (suc k) v ≡ true
  unfolding removed
  removed_next k v h = eq-eqb _ 0 (remaining_none (removed es k) v es h)

  pub next_removed : (k v : ℕ) → removed es (suc k) v ≡ true → Each (λ e. e.target ≡ v → removed es k e.source ≡ true) es
  unfolding removed
  next_removed k v r = none_remaining (removed es k) v es (eqb-true _ 0 r)

  pub before_removed : (k v : ℕ) → removed es k v ≡ true → Each (λ e. e.target ≡ v → removed es k e.source ≡ true) es
  before_removed k v r = next_removed k v (removed_more k v r)

  -- whatever has each vertex whose predecessors it all has, has what is taken out
  pub removed_least : (p : ℕ → Bool) → ((v : ℕ) → Each (λ e. e.target ≡ v → p e.source ≡ true) es → p v ≡ true)
      → (k v : ℕ) → removed es k v ≡ true → p v ≡ true
  unfolding removed
  removed_least p closed zero v r = absurd (false≢true r)
  removed_least p closed (suc k) v r =
      closed v (each_map _ _ es (λ e h i. removed_least p closed k e.source (h i)) (next_removed k v r))

  module _ (n : ℕ) (within : Each (λ e. e.source < n) es) where
    -- round k + 1 takes out no vertex
    abbrev Still : ℕ → Type 0
    Still k = (v : ℕ) → v < n → removed es (suc k) v ≡ true → removed es k v ≡ true

    still_more : (k : ℕ) → Still k → Still (suc k)
    unfolding removed
    still_more k h v l r =
        eq-eqb (remaining (removed es k) v es) 0
        (omega (
          arith,
          eqb-true (remaining (removed es (suc k)) v es) 0 r,
          remaining_mono (removed es (suc k)) (removed es k) v es (each_map _ _ es (λ e b. h e.source b) within),
        ))

    -- until then each round takes out one vertex at least
    grows : (k : ℕ) → (k ≤ count (removed es k) 0 n) ⊎ Still k
    grows zero = inl (omega arith)
    grows (suc k) = ⊎_elim (λ h. new h (below_or w n)) (λ s. inr (still_more k s)) (grows k)
      where
        fresh : ℕ → Bool
        fresh v = removed es (suc k) v && not (removed es k v)

        w : ℕ
        w = lowest fresh 0 n

        low : Lowest fresh 0 n w
        low = lowest_is fresh 0 n

        old : (t : Bool) (v : ℕ) → removed es k v ≡ t → fresh v ≡ false → removed es (suc k) v ≡ true → removed es k v ≡ true
        old true v e f r = e
        old false v e f r = absurd (false≢true (sym f ∙ rw (r, e)))

        new : k ≤ count (removed es k) 0 n → (w < n) ⊎ (n ≤ w) → (suc k ≤ count (removed es (suc k)) 0 n) ⊎ Still (suc k)
        new h (inl l) =
            let f : fresh w ≡ true = low.here (omega arith) in
            inl
            (omega (
              arith,
              count_less (removed es k) (removed es (suc k)) 0 n w (omega arith) (omega arith)
                  (not-true _ (both_right (removed es (suc k) w) _ f)) (both_left _ (not (removed es k w)) f) (λ v a b. removed_more k v),
            ))
        new h (inr l) = inr (still_more k (λ v b r. old (removed es k v) v refl (low.before v (omega arith) (omega arith)) r))

    -- so n rounds are enough
    pub settled : (v : ℕ) → v < n → removed es (suc n) v ≡ true → removed es n v ≡ true
    settled v l r = ⊎_elim (λ h. all (removed es n v) refl h) (λ s. s v l r) (grows n)
      where
        all : (t : Bool) → removed es n v ≡ t → n ≤ count (removed es n) 0 n → removed es n v ≡ true
        all true e h = e
        all false e h =
            absurd (omega (arith, count_less (removed es n) (λ u. true) 0 n v (omega arith) (omega arith) e refl (λ u a b t. refl), count_most (λ u. true) 0 n))

    -- what has no predecessor left over is taken out
    pub removed_closed : (v : ℕ) → v < n → Each (λ e. e.target ≡ v → removed es n e.source ≡ true) es → removed es n v ≡ true
    removed_closed v l h = settled v l (removed_next n v h)
