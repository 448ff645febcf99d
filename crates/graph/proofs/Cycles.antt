-- A positive cycle is reported exactly if there is one, and the atom named is the lowest on or behind one.
-- Assumes nothing.
use Prim.Native.Nat.{ℕ, zero, suc, ◌+◌, ◌≤◌, ◌<◌}
use native.Mathlib.Omega.{arith}
use mathlib.Core.Path.{◌≡◌, refl, ap, sym, ◌∙◌}
use mathlib.Core.Logic.{⊎_elim, ◌↔◌}
use mathlib.Core.Bool.{Bool, true, false, false≢true}
use mathlib.Core.List.{List, [], ◌∷◌, map, Memᴰ}
use lib.Dec.{eqb, ltb}
use lib.ListN.{length, length-map}
use borrow.Author.Tests.{eqb-true, eq-eqb, ne_eqb, ltb-true, ltb-false}
use Rattle.base.specs.Tests.{below_or}
use Rattle.base.specs.Each.{Each, each_map}
use Rattle.base.specs.Places.{count_most, lowest, Lowest, lowest_is}
use Rattle.graph.specs.Edge.{Edge, one, Rises}
use Rattle.graph.specs.Removed.{remaining, removed}
use Rattle.graph.specs.Path.{Path, steps}
use Rattle.graph.specs.Cycle.{Behind, LowestBehind}
use Rattle.graph.specs.Accepts.{Accepts}
use Rattle.graph.specs.Derive.{cycle, derive}
use Rattle.graph.specs.Removing.{times, has}
use Rattle.graph.proofs.Cost.{cost_strict}
use Rattle.graph.proofs.Rounds.{next_removed, before_removed, settled}
use Rattle.graph.proofs.Paths.{each_in}
use Rattle.graph.proofs.Ranks.{cycle_right, cycle_exactly}
use Rattle.graph.proofs.Times.{length-count}

-- an edge into v from outside p
abbrev EdgeFrom : (ℕ → Bool) → ℕ → List Edge → Type 0
EdgeFrom p v es = (e : Edge) × Memᴰ e es × (e.target ≡ v) × (p e.source ≡ false)

-- there is one if their number is not 0
left_edge : (p : ℕ → Bool) (v : ℕ) (es : List Edge) → 0 < remaining p v es → EdgeFrom p v es
unfolding remaining
left_edge p v [] l = absurd (omega arith)
left_edge p v (e ∷ es) l = go (eqb e.target v) refl (p e.source) refl (λ m. later (left_edge p v es m))
  where
    later : EdgeFrom p v es → EdgeFrom p v (e ∷ es)
    later w = (w.0, Memᴰ.tail w.1, w.2, w.3)

    go : (b : Bool) → eqb e.target v ≡ b → (c : Bool) → p e.source ≡ c → (0 < remaining p v es → EdgeFrom p v (e ∷ es)) → EdgeFrom p v (e ∷ es)
    go true i false j f = (e, Memᴰ.head refl, eqb-true e.target v i, j)
    go true i true j f = f (omega (arith, rw (i, j) at l))
    go false i c j f = f (omega (arith, rw i at l))

-- ---- along a path

module _ (es : List Edge) where
  -- what leads into a removed vertex is removed
  back_removed : (k u v : ℕ) (p : List Edge) → Path es u v p → removed es k v ≡ true → removed es k u ≡ true
  back_removed k u v [] w r = rw w r
  back_removed k u v (e ∷ p) w r = back_removed k u e.source p w.2 (each_in _ e es (before_removed es k v r) w.0 w.1)

  -- and lies on no positive cycle
  on_none : (A k v : ℕ) (p : List Edge) → Path es v v p → 0 < steps A p → removed es k v ≡ true → ⊥
  unfolding removed steps
  on_none A k v [] w l r = omega arith
  on_none A zero v (e ∷ p) w l r = false≢true r
  on_none A (suc k) v (e ∷ p) w l r =
      on_none A k v (e ∷ p) w l (back_removed k v e.source p w.2 (each_in _ e es (next_removed es k v r) w.0 w.1))

  -- ranks that the graph accepts rise by the strict edges
  accepted_along : (A : ℕ) (R : ℕ → ℕ) → Accepts A R es → (u v : ℕ) (p : List Edge) → Path es u v p → R u + steps A p ≤ R v
  unfolding steps
  accepted_along A R acc u v [] w = omega (arith, ap R w)
  accepted_along A R acc u v (e ∷ p) w =
      omega (arith, accepted_along A R acc u e.source p w.2, each_in _ e es acc w.0, ap R w.1)

  -- the sources of a path's edges
  abbrev sources : List Edge → List ℕ
  sources p = map (λ e. e.source) p

  -- a path into v cut at the last edge that leaves x
  record Cut (x u v : ℕ) (p : List Edge) : Type 0 where
    pub before : List Edge
    pub after : List Edge
    pub reaches : Path es u x before
    pub leaves : Path es x v after
    pub some : 0 < length after
    pub fewer : suc (times x (sources before)) ≡ times x (sources p)

  cut : (x u v : ℕ) (p : List Edge) → Path es u v p → 0 < times x (sources p) → Cut x u v p
  unfolding times
  cut x u v [] w l = absurd (omega arith)
  cut x u v (e ∷ p) w l = go (eqb x e.source) refl (λ m. cut x u e.source p w.2 m)
    where
      go : (b : Bool) → eqb x e.source ≡ b → (0 < times x (sources p) → Cut x u e.source p) → Cut x u v (e ∷ p)
      go true i f =
          let s : x ≡ e.source = eqb-true x e.source i in
          record { before = p; after = e ∷ []; reaches = rw s w.2; leaves = (w.0, w.1, s); some = omega arith; fewer = omega (arith, ap one i) }
      go false i f =
          let c = f (omega (arith, ap one i)) in
          record {
            before = c.before;
            after = e ∷ c.after;
            reaches = c.reaches;
            leaves = (w.0, w.1, c.leaves);
            some = omega arith;
            fewer = omega (arith, ap one i, c.fewer);
          }

-- ---- the cycle

module _ (A n : ℕ) (es : List Edge) (few : A ≤ n) (rises : Each (Rises A n) es) where
  -- a path without strict edges rises
  plain_up : (u v : ℕ) (p : List Edge) → Path es u v p → steps A p ≡ 0 → u + length p ≤ v
  unfolding steps
  plain_up u v [] w z = omega (arith, w)
  plain_up u v (e ∷ p) w z =
      let r : Rises A n e = each_in _ e es rises w.0 in
      ⊎_elim
      (λ s. absurd (omega (arith, cost_strict A e s)))
      (λ q. omega (arith, r.up q, w.1, plain_up u e.source p w.2 (omega arith)))
      (below_or e.target A)

  -- so every cycle is positive
  pub cycle_positive : (v : ℕ) (p : List Edge) → Path es v v p → 0 < length p → 0 < steps A p
  cycle_positive v p w l = ⊎_elim (λ h. h) (λ h. absurd (omega (arith, plain_up v v p w (omega arith)))) (below_or 0 (steps A p))

  within : Each (λ e. e.source < n) es
  within = each_map _ _ es (λ e r. r.source_in) rises

  -- what is left over has a predecessor left over
  predecessor : (v : ℕ) → v < n → removed es n v ≡ false → EdgeFrom (removed es n) v es
  unfolding removed
  predecessor v l r =
      ⊎_elim
      (left_edge (removed es n) v es)
      (λ h. absurd (false≢true (sym r ∙ settled es n within v l (eq-eqb (remaining (removed es n) v es) 0 (omega arith)))))
      (below_or 0 (remaining (removed es n) v es))

  -- so a path of any length leads into it
  walk : (k v : ℕ) → v < n → removed es n v ≡ false → (u : ℕ) × (p : List Edge) × Path es u v p × (length p ≡ k)
  walk zero v l r = (v, [], refl, refl)
  walk (suc k) v l r =
      let w = predecessor v l r in
      let b = walk k w.0.source (each_in _ w.0 es within w.1) w.3 in
      (b.0, w.0 ∷ b.1, (w.1, w.2, b.2), ap suc b.3)

  sources_in : (u v : ℕ) (p : List Edge) → Path es u v p → (x : ℕ) → n ≤ x → times x (sources es p) ≡ 0
  unfolding times
  sources_in u v [] w x l = refl
  sources_in u v (e ∷ p) w x l =
      omega (
        arith,
        ap one (ne_eqb x e.source (λ i. omega (arith, each_in _ e es within w.0))),
        sources_in u e.source p w.2 x l,
      )

  -- one with more edges than there are vertices leaves one of them twice
  repeated : (u v : ℕ) (p : List Edge) → Path es u v p → n < length p → (x : ℕ) × (1 < times x (sources es p))
  repeated u v p w l =
      ⊎_elim
      (λ h. (lowest twice 0 n, ltb-true 1 (times (lowest twice 0 n) (sources es p)) (low.here (omega arith))))
      (λ h.
      absurd (omega (
        arith,
        length-map p (λ e. e.source),
        length-count n (sources es p) (sources_in u v p w) (once h),
        count_most (has (sources es p)) 0 n,
      )))
      (below_or (lowest twice 0 n) n)
    where
      twice : ℕ → Bool
      twice x = ltb 1 (times x (sources es p))

      low : Lowest twice 0 n (lowest twice 0 n)
      low = lowest_is twice 0 n

      once : n ≤ lowest twice 0 n → (x : ℕ) → times x (sources es p) ≤ 1
      once h x =
          ⊎_elim
          (λ b. ltb-false 1 (times x (sources es p)) (low.before x (omega arith) (omega arith)))
          (λ b. omega (arith, sources_in u v p w x b))
          (below_or x n)

  -- so what is left over lies on or behind a positive cycle
  left_behind : (v : ℕ) → v < n → removed es n v ≡ false → Behind A es v
  left_behind v l r =
      let w = walk (suc n) v l r in
      let x = repeated w.0 v w.1 w.2 (omega (arith, w.3)) in
      let c = cut es x.0 w.0 v w.1 w.2 (omega (arith, x.1)) in
      let d = cut es x.0 w.0 x.0 c.before c.reaches (omega (arith, x.1, c.fewer)) in
      record {
        vertex = x.0;
        around = d.after;
        closes = d.leaves;
        positive = cycle_positive x.0 d.after d.leaves d.some;
        onward = c.after;
        leads = c.leaves;
      }

  -- ---- the theorem

  -- a positive cycle anywhere is reported
  pub cycle_found : (v : ℕ) → Behind A es v → (a : ℕ) × (derive A n es ≡ cycle a)
  cycle_found v b =
      (cycle_exactly A n es few rises).1 (λ R acc. omega (arith, accepted_along es A R acc b.vertex b.vertex b.around b.closes, b.positive))

  lowest-behind : (a : ℕ) → derive A n es ≡ cycle a → LowestBehind A es a
  lowest-behind a e =
      let stuck = cycle_right A n es few rises a e in
      record {
        atom = stuck.atom;
        behind = left_behind a (omega (arith, stuck.atom)) stuck.left;
        lower = λ b l w.
            on_none es A n w.vertex w.around w.closes w.positive (back_removed es n w.vertex b w.onward w.leads (stuck.lower b l));
      }

  -- the atom named is the lowest on or behind one, and no other
  pub cycle_names : (a : ℕ) → (derive A n es ≡ cycle a) ↔ LowestBehind A es a
  cycle_names a = (lowest-behind a, named)
    where
      named : LowestBehind A es a → derive A n es ≡ cycle a
      named w =
          let c = cycle_found a w.behind in
          let f = lowest-behind c.0 c.1 in
          ⊎_elim
          (λ l. absurd (w.lower c.0 l f.behind))
          (λ l. ⊎_elim (λ m. absurd (f.lower a m w.behind)) (λ m. let same : c.0 ≡ a = omega arith in c.1 ∙ ap cycle same) (below_or a c.0))
          (below_or c.0 a)
