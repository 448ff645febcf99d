-- On any evaluation the walk takes rising nodes, and ends within one step more than there are nodes.
-- Assumes nothing.
use Prim.Native.Nat.{ℕ, zero, suc, ◌<◌, ◌≤◌, ◌+◌}
use native.Mathlib.Omega.{arith}
use Rattle.std.proofs.Math.Path.{◌≡◌, refl, ap}
use Rattle.std.proofs.Common.{◌∙◌, subst, eqb-true}
use Rattle.std.specs.Prelude.{Bool, eqb, ltb, set, Option, Some, None}
use Rattle.std.proofs.Math.Bool.{true, false, cond}
use mathlib.Core.List.{List, [], ◌∷◌}
use Rattle.words.specs.Changed.{unlike}
use Rattle.kept.specs.CountedSet.{and_then}
use Rattle.kept.specs.Worklist.{Worklist, without_first}
use Rattle.kept.specs.Tables.{Tables, node_count, readers_at}
use Rattle.kept.specs.Evaluation.{Evaluation, truth_at, truth_word}
use Rattle.kept.specs.Parts.{with_truths, with_worklist}
use Rattle.kept.specs.Step.{readers_updated, Stepped, idle, took, fault, took_at, settled, settled_from, seen, step_at, step}
use Rattle.kept.specs.Walk.{Walked, ended, broken, after, onward, walk}
use Rattle.kept.specs.LayoutLaws.{Fits}
use Rattle.kept_laws.specs.FitsLaws.{step_fits, step-above, taken}

module _ (T : Tables) where
  abbrev first_of : Evaluation → ℕ
  first_of e = e.worklist.first

  -- ---- a step

  -- the node taken was the first, and what is first then is above it
  pub step_next : (m : ℕ) (e d : Evaluation) → step T e ≡ took m d → (first_of e ≡ m) × (m < node_count T) × (m < first_of d)
  step_next m e d h = let t = taken T e m d h in (t.first, t.below, step-above T e m d h)

  -- ---- the walk

  -- as many steps as are enough
  abbrev pub Enough : ℕ → Evaluation → Type 0
  Enough f e = (0 < f) × (node_count T < first_of e + f)

  enough_next : (f m : ℕ) (e d : Evaluation) → step T e ≡ took m d → Enough (suc f) e → Enough f d
  enough_next f m e d h x = let n = step_next m e d h in (omega (arith, n.0, n.1, x.1), omega (arith, n.0, n.2, x.1))

  -- all such numbers give the same
  pub walk_fuel : (f g : ℕ) (e : Evaluation) → Enough f e → Enough g e → walk T f e ≡ walk T g e
  unfolding walk
  walk_fuel zero g e a b = absurd (omega (arith, a.0))
  walk_fuel (suc f) zero e a b = absurd (omega (arith, b.0))
  walk_fuel (suc f) (suc g) e a b = go (step T e) refl (walk_fuel f g)
    where
      go : (s : Stepped) → step T e ≡ s → ((e : Evaluation) → Enough f e → Enough g e → walk T f e ≡ walk T g e) → onward e (walk T f) s ≡ onward e (walk T g) s
      go idle h ih = refl
      go (fault p) h ih = refl
      go (took m d) h ih = ap (after m) (ih d (enough_next f m e d h a) (enough_next g m e d h b))

  -- so a loop may go on with as many again
  pub walk_on : (m : ℕ) (e d : Evaluation) → step T e ≡ took m d → walk T (suc (node_count T)) e ≡ after m (walk T (suc (node_count T)) d)
  unfolding walk
  walk_on m e d h =
      let n = step_next m e d h in
      rw h (ap (after m) (walk_fuel (node_count T) (suc (node_count T)) d (omega (arith, n.1), omega (arith, n.2)) (omega arith, omega arith)))

  -- rising from k on, all below n
  abbrev pub Rises : ℕ → ℕ → List ℕ → Type 0
  Rises k n [] = Unit {0}
  Rises k n (x ∷ xs) = (k ≤ x) × (x < n) × Rises (suc x) n xs

  pub rises_lower : (j k n : ℕ) (xs : List ℕ) → j ≤ k → Rises k n xs → Rises j n xs
  rises_lower j k n [] l r = tt
  rises_lower j k n (x ∷ xs) l r = (omega (arith, r.0), r.1, r.2)

  settled_works : (k : ℕ) (t : Bool) (e : Evaluation) → settled T k t e ≡ idle → ◌≡◌ {A = ℕ} 0 1
  unfolding settled
  settled_works k t e h = go (unlike (truth_at e k) t) (and_then (readers_at T k) (readers_updated T k t (with_truths e (set e.truths k (truth_word t))))) h
    where
      go : (b : Bool) (o : Option Evaluation) → cond b (took_at k o) (took k e) ≡ idle → ◌≡◌ {A = ℕ} 0 1
      go true None h = cc
      go true (Some d) h = cc
      go false o h = cc

  idle_empty : (e : Evaluation) → step T e ≡ idle → first_of e ≡ node_count T
  unfolding step step_at
  idle_empty e h = go (ltb (first_of e) (node_count T)) (eqb (first_of e) (node_count T)) refl h
    where
      never : (k : ℕ) (t : Option Bool) (o : Option Worklist) → settled_from T k e t o ≡ idle → ◌≡◌ {A = ℕ} 0 1
      never k None o h = cc
      never k (Some t) None h = cc
      never k (Some t) (Some w) h = settled_works k t (with_worklist e w) h

      go : (a b : Bool) → eqb (first_of e) (node_count T) ≡ b
          → cond a (settled_from T (first_of e) e (seen T e (first_of e)) (without_first (node_count T) e.worklist)) (cond b idle (fault 0)) ≡ idle → first_of e ≡ node_count T
      go true b q h = let z = never (first_of e) (seen T e (first_of e)) (without_first (node_count T) e.worklist) h in absurd (omega arith)
      go false true q h = eqb-true (first_of e) (node_count T) q
      go false false q h = let z : ◌≡◌ {A = ℕ} 0 1 = cc in absurd (omega arith)

  pub walk_ends : (fuel : ℕ) (e d : Evaluation) (ks : List ℕ) → Fits T e → Enough fuel e → walk T fuel e ≡ ended ks d
      → Rises (first_of e) (node_count T) ks × (first_of d ≡ node_count T) × Fits T d
  unfolding walk
  walk_ends zero e d ks c x h = absurd (omega (arith, x.0))
  walk_ends (suc fuel) e d ks c x h = go (step T e) refl h (λ b js. walk_ends fuel b d js)
    where
      Rest : Type 0
      Rest = (b : Evaluation) (js : List ℕ) → Fits T b → Enough fuel b → walk T fuel b ≡ ended js d → Rises (first_of b) (node_count T) js × (first_of d ≡ node_count T) × Fits T d

      later : (m : ℕ) (b : Evaluation) → step T e ≡ took m b → (w : Walked) → walk T fuel b ≡ w → after m w ≡ ended ks d → Rest → Rises (first_of e) (node_count T) ks × (first_of d ≡ node_count T) × Fits T d
      later m b p (broken j) q h ih = let z : ◌≡◌ {A = ℕ} 0 1 = cc in absurd (omega arith)
      later m b p (ended js y) q h ih =
          let s : y ≡ d = cc in
          let u : m ∷ js ≡ ks = cc in
          let n = step_next m e b p in
          let r = ih b js (step_fits T e m b p c) (enough_next fuel m e b p x) (q ∙ ap (ended js) s) in
          let rises : Rises (first_of e) (node_count T) (m ∷ js) = (omega (arith, n.0), n.1, rises_lower (suc m) (first_of b) (node_count T) js (omega (arith, n.2)) r.0) in
          (subst (λ (x : List ℕ). Rises (first_of e) (node_count T) x) u rises, r.1, r.2)

      go : (s : Stepped) → step T e ≡ s → onward e (walk T fuel) s ≡ ended ks d → Rest → Rises (first_of e) (node_count T) ks × (first_of d ≡ node_count T) × Fits T d
      go idle p h ih =
          let q : e ≡ d = cc in
          let u : [] ≡ ks = cc in
          let rises : Rises (first_of e) (node_count T) [] = tt in
          (subst (λ (x : List ℕ). Rises (first_of e) (node_count T) x) u rises, rw q at (idle_empty e p), rw q at c)
      go (took m b) p h ih = later m b p (walk T fuel b) refl h ih
      go (fault m) p h ih = let z : ◌≡◌ {A = ℕ} 0 1 = cc in absurd (omega arith)
