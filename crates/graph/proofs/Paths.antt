-- `depth` is the most strict edges on a path.
-- Assumes nothing.
use Prim.Native.Nat.{ℕ, zero, suc, ◌+◌, ◌≤◌, max}
use native.Mathlib.Omega.{arith}
use mathlib.Core.Path.{◌≡◌, refl, sym, ◌∙◌}
use mathlib.Core.Logic.{◌⊎◌, inl, inr, ⊎_elim}
use mathlib.Core.Bool.{Bool, true, false, cond, ◌&&◌}
use mathlib.Core.List.Memᴰ
use mathlib.Core.List.{List, [], ◌∷◌, Memᴰ}
use lib.Dec.{eqb, leb}
use lib.ListN.{length}
use borrow.Author.Tests.{eqb-true, leb-true, leb-false}
use Rattle.base.specs.Each.{Each}
use Rattle.graph.specs.Edge.{Edge, cost}
use Rattle.graph.specs.Depth.{peak, every, depth}
use Rattle.graph.specs.Path.{Path, steps}
use Rattle.graph.proofs.Depths.{peak_ge}

pub each_in : (P : Edge → Type 0) (e : Edge) (xs : List Edge) → Each P xs → Memᴰ e xs → P e
each_in P e [] h m = absurd (Memᴰ.not-nil m)
each_in P e (x ∷ xs) h m = ⊎_elim (λ i. rw i h.0) (λ n. each_in P e xs h.1 n) (Memᴰ.cases_cons m)

-- the peak is 0 or comes from an edge
abbrev pub Attained : ℕ → (ℕ → ℕ) → ℕ → List Edge → ℕ → Type 0
Attained A f v es c = (c ≡ 0) ⊎ ((e : Edge) × Memᴰ e es × (e.target ≡ v) × (c ≡ f e.source + cost A e))

module _ (A : ℕ) where
  later : (f : ℕ → ℕ) (v : ℕ) (x : Edge) (xs : List Edge) (c d : ℕ) → d ≡ c → Attained A f v xs c → Attained A f v (x ∷ xs) d
  later f v x xs c d i (inl z) = inl (i ∙ z)
  later f v x xs c d i (inr w) = inr (w.0, Memᴰ.tail w.1, w.2, i ∙ w.3)

  pub peak_is : (f : ℕ → ℕ) (v : ℕ) (es : List Edge) → Attained A f v es (peak A every f v es)
  unfolding peak
  peak_is f v [] = inl refl
  peak_is f v (x ∷ xs) = go (eqb x.target v) refl (leb (peak A every f v xs) (f x.source + cost A x)) refl (peak_is f v xs)
    where
      go : (b : Bool) → eqb x.target v ≡ b → (c : Bool) → leb (peak A every f v xs) (f x.source + cost A x) ≡ c
          → Attained A f v xs (peak A every f v xs) → Attained A f v (x ∷ xs) (max (cond (b && true) (f x.source + cost A x) 0) (peak A every f v xs))
      go false i c j ih = later f v x xs (peak A every f v xs) _ (omega arith) ih
      go true i true j ih = inr (x, Memᴰ.head refl, eqb-true x.target v i, omega (arith, leb-true (peak A every f v xs) (f x.source + cost A x) j))
      go true i false j ih = later f v x xs (peak A every f v xs) _ (omega (arith, leb-false (peak A every f v xs) (f x.source + cost A x) j)) ih

  module _ (es : List Edge) where
    -- among the paths of at most k edges one has as many as the depth
    pub deepest : (k v : ℕ) → (u : ℕ) × (p : List Edge) × Path es u v p × (length p ≤ k) × (steps A p ≡ depth A es k v)
    unfolding depth steps
    deepest zero v = (v, [], refl, omega arith, refl)
    deepest (suc k) v =
        ⊎_elim
        (λ z. (v, [], refl, omega arith, sym z))
        (λ w.
        let d = deepest k w.0.source in
        (d.0, w.0 ∷ d.1, (w.1, w.2, d.2), omega (arith, d.3), omega (arith, d.4, w.3)))
        (peak_is (depth A es k) v es)

    -- and none has more
    pub no_deeper : (k u v : ℕ) (p : List Edge) → Path es u v p → length p ≤ k → steps A p ≤ depth A es k v
    unfolding depth steps
    no_deeper k u v [] w l = omega arith
    no_deeper zero u v (e ∷ p) w l = absurd (omega arith)
    no_deeper (suc k) u v (e ∷ p) w l =
        omega (arith, no_deeper k u e.source p w.2 (omega arith), each_in _ e es (peak_ge A (depth A es k) v es) w.0 w.1)
