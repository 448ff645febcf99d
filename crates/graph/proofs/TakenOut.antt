-- Once s is taken out, what is left over falls by the edges from s, and the peaks rise by them.
-- Assumes nothing.
use Prim.Native.Nat.{ℕ, ◌+◌, max}
use native.Mathlib.Omega.{arith}
use mathlib.Core.Path.{◌≡◌, refl}
use mathlib.Core.Bool.{Bool, true, false, not, cond, ◌&&◌}
use mathlib.Core.List.{List, [], ◌∷◌}
use lib.Dec.{eqb}
use borrow.Author.Tests.{eqb-true, eqb-false}
use Rattle.graph.specs.Edge.{Edge, one, cost}
use Rattle.graph.specs.Removed.{remaining}
use Rattle.graph.specs.Depth.{peak, every}
use Rattle.graph.specs.Removal.{edges_from}
use Rattle.graph.specs.Removing.{none}

module _ (p q : ℕ → Bool) (s : ℕ) (fresh : p s ≡ false) (gone : q s ≡ true) (same : (u : ℕ) → (u ≡ s → ⊥) → q u ≡ p u) where
  pub remaining_out : (v : ℕ) (es : List Edge) → remaining p v es ≡ remaining q v es + remaining none v (edges_from s es)
  unfolding remaining edges_from
  remaining_out v [] = omega arith
  remaining_out v (e ∷ es) = go (eqb e.source s) refl (remaining_out v es)
    where
      go : (c : Bool) → eqb e.source s ≡ c → remaining p v es ≡ remaining q v es + remaining none v (edges_from s es)
          → one (eqb e.target v && not (p e.source)) + remaining p v es
          ≡ one (eqb e.target v && not (q e.source)) + remaining q v es + remaining none v (cond c (e ∷ edges_from s es) (edges_from s es))
      go true i ih = rw (eqb-true e.source s i, fresh, gone) (case (eqb e.target v))
        where
          case : (d : Bool) → one (d && true) + remaining p v es ≡ one (d && false) + remaining q v es + (one (d && true) + remaining none v (edges_from s es))
          case true = omega arith
          case false = omega arith
      go false i ih = rw (same e.source (eqb-false e.source s i)) (omega arith)

  pub peak_out : (A : ℕ) (f : ℕ → ℕ) (v : ℕ) (es : List Edge) → peak A q f v es ≡ max (peak A p f v es) (peak A every f v (edges_from s es))
  unfolding peak edges_from
  peak_out A f v [] = omega arith
  peak_out A f v (e ∷ es) = go (eqb e.source s) refl (peak_out A f v es)
    where
      go : (c : Bool) → eqb e.source s ≡ c → peak A q f v es ≡ max (peak A p f v es) (peak A every f v (edges_from s es))
          → max (cond (eqb e.target v && q e.source) (f e.source + cost A e) 0) (peak A q f v es)
          ≡ max (max (cond (eqb e.target v && p e.source) (f e.source + cost A e) 0) (peak A p f v es)) (peak A every f v (cond c (e ∷ edges_from s es) (edges_from s es)))
      go true i ih = rw (eqb-true e.source s i, fresh, gone) (case (eqb e.target v))
        where
          case : (d : Bool) → max (cond (d && true) (f s + cost A e) 0) (peak A q f v es)
              ≡ max (max (cond (d && false) (f s + cost A e) 0) (peak A p f v es)) (max (cond (d && true) (f s + cost A e) 0) (peak A every f v (edges_from s es)))
          case true = omega arith
          case false = omega arith
      go false i ih = rw (same e.source (eqb-false e.source s i)) (omega arith)

pub peak_none : (A : ℕ) (f : ℕ → ℕ) (v : ℕ) (es : List Edge) → peak A none f v es ≡ 0
unfolding peak
peak_none A f v [] = refl
peak_none A f v (e ∷ es) = go (eqb e.target v) (peak_none A f v es)
  where
    go : (d : Bool) → peak A none f v es ≡ 0 → max (cond (d && false) (f e.source + cost A e) 0) (peak A none f v es) ≡ 0
    go true i = omega arith
    go false i = omega arith
