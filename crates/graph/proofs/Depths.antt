-- Laws of the peak over a vertex's edges, and of depths: the least ranks, once every vertex is removed.
-- Assumes nothing.
use Prim.Native.Nat.{ℕ, zero, suc, ◌+◌, ◌≤◌, max}
use native.Mathlib.Omega.{arith}
use mathlib.Core.Path.{◌≡◌, refl, ap, ap₂, sym}
use mathlib.Core.Bool.{Bool, true, false, not, cond, ◌&&◌, false≢true}
use mathlib.Core.List.{List, [], ◌∷◌, ◌++◌}
use lib.Dec.{eqb}
use borrow.Author.Tests.{eqb-true, eq-eqb}
use Rattle.base.specs.Each.{Each}
use Rattle.graph.specs.Edge.{Edge, one, cost}
use Rattle.graph.specs.Removed.{remaining, removed}
use Rattle.graph.specs.Depth.{peak, every, depth}
use Rattle.graph.specs.Accepts.{Accepts}
use Rattle.graph.proofs.Cost.{cost-most}

pick_agree : (d p q r : Bool) (x y : ℕ) → one (d && not p) ≡ 0 → (p ≡ true → q ≡ r) → (p ≡ true → x ≡ y) → cond (d && q) x 0 ≡ cond (d && r) y 0
pick_agree false p q r x y z i j = refl
pick_agree true true q r x y z i j = ap₂ (λ c w. cond c w 0) (i refl) (j refl)
pick_agree true false q r x y z i j = omega arith

pick_le : (w v : ℕ) (c : Bool) (x : ℕ) (R : ℕ → ℕ) → x ≤ R w → cond (eqb w v && c) x 0 ≤ R v
pick_le w v c x R h = go (eqb w v) c refl
  where
    go : (d c : Bool) → eqb w v ≡ d → cond (d && c) x 0 ≤ R v
    go false c i = omega arith
    go true false i = omega arith
    go true true i = rw (eqb-true w v i) at h

module _ (A : ℕ) where
  -- where no edge into v comes from outside p, the values on p are all that count
  pub peak_agree : (p q r : ℕ → Bool) (f g : ℕ → ℕ) (v : ℕ) (es : List Edge) → remaining p v es ≡ 0
      → ((u : ℕ) → p u ≡ true → q u ≡ r u) → ((u : ℕ) → p u ≡ true → f u ≡ g u) → peak A q f v es ≡ peak A r g v es
  unfolding remaining peak
  peak_agree p q r f g v [] z i j = refl
  peak_agree p q r f g v (e ∷ es) z i j =
      ap₂ max
      (pick_agree (eqb e.target v) (p e.source) (q e.source) (r e.source) _ _ (omega arith) (i e.source)
      (λ t. ap (λ x. x + cost A e) (j e.source t)))
      (peak_agree p q r f g v es (omega arith) i j)

  pub peak-append : (p : ℕ → Bool) (f : ℕ → ℕ) (v : ℕ) (xs ys : List Edge) → peak A p f v (xs ++ ys) ≡ max (peak A p f v xs) (peak A p f v ys)
  unfolding peak
  peak-append p f v [] ys = omega arith
  peak-append p f v (x ∷ xs) ys = omega (arith, peak-append p f v xs ys)

  -- accepted values bound it
  pub peak_le : (R : ℕ → ℕ) (p : ℕ → Bool) (f : ℕ → ℕ) (v : ℕ) (es : List Edge) → Accepts A R es → ((u : ℕ) → f u ≤ R u) → peak A p f v es ≤ R v
  unfolding peak
  peak_le R p f v [] h b = omega arith
  peak_le R p f v (e ∷ es) h b =
      omega (arith, pick_le e.target v (p e.source) (f e.source + cost A e) R (omega (arith, b e.source, h.0)), peak_le R p f v es h.1 b)

  peak_small : (k : ℕ) (f : ℕ → ℕ) (v : ℕ) (es : List Edge) → ((u : ℕ) → f u ≤ k) → peak A every f v es ≤ suc k
  unfolding peak
  peak_small k f v [] b = omega arith
  peak_small k f v (e ∷ es) b =
      omega (
        arith,
        pick_le e.target v true (f e.source + cost A e) (λ u. suc k) (omega (arith, b e.source, cost-most A e)),
        peak_small k f v es b,
      )

  -- no edge into v rises above it
  pub peak_ge : (f : ℕ → ℕ) (v : ℕ) (es : List Edge) → Each (λ e. e.target ≡ v → f e.source + cost A e ≤ peak A every f v es) es
  unfolding peak
  peak_ge f v es = go (peak A every f v es) es (omega arith)
    where
      go : (b : ℕ) (xs : List Edge) → peak A every f v xs ≤ b → Each (λ e. e.target ≡ v → f e.source + cost A e ≤ b) xs
      go b [] h = tt
      go b (e ∷ xs) h = (λ i. omega (arith, rw (eq-eqb e.target v i) at h), go b xs (omega arith))

  module _ (es : List Edge) where
    -- more rounds do not change the depth of what was removed
    depth_more : (k v : ℕ) → removed es k v ≡ true → depth A es (suc k) v ≡ depth A es k v
    unfolding removed depth
    depth_more zero v r = absurd (false≢true r)
    depth_more (suc k) v r =
        peak_agree (removed es k) every every (depth A es (suc k)) (depth A es k) v es (eqb-true (remaining (removed es k) v es) 0 r) (λ u t. refl) (depth_more k)

    pub depth_step : (k v : ℕ) → removed es k v ≡ true → depth A es k v ≡ peak A every (depth A es k) v es
    unfolding depth
    depth_step k v r = sym (depth_more k v r)

    pub depth_least : (R : ℕ → ℕ) → Accepts A R es → (k v : ℕ) → depth A es k v ≤ R v
    unfolding depth
    depth_least R h zero v = omega arith
    depth_least R h (suc k) v = peak_le R every (depth A es k) v es h (depth_least R h k)

    pub depth_rises : (k v : ℕ) → removed es k v ≡ true → Each (λ e. e.target ≡ v → depth A es k e.source + cost A e ≤ depth A es k v) es
    depth_rises k v r = rw (depth_step k v r) (peak_ge (depth A es k) v es)

    -- a depth is at most the rounds
    pub depth_small : (k v : ℕ) → depth A es k v ≤ k
    unfolding depth
    depth_small zero v = omega arith
    depth_small (suc k) v = peak_small k (depth A es k) v es (depth_small k)
