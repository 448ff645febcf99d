-- The derived ranks are the least that the graph accepts; a cycle is found exactly if it accepts none.
-- Assumes nothing.
use Prim.Native.Nat.{ℕ, zero, suc, ◌+◌, ◌≤◌, ◌<◌}
use native.Mathlib.Omega.{arith}
use mathlib.Core.Path.{◌≡◌, refl, ap, sym, ◌∙◌}
use mathlib.Core.Logic.{⊎_elim, ◌↔◌}
use mathlib.Core.Bool.{Bool, true, false, not, cond, false≢true}
use mathlib.Core.List.{List, [], ◌∷◌, Memᴰ}
use lib.Dec.{ltb}
use lib.ListN.{get_or}
use borrow.Author.Tests.{ltb-true, ltb-false, lt-ltb, le-ltb, not-true, not-false}
use Rattle.base.specs.Tests.{below_or}
use Rattle.base.specs.Each.{Each, each_map, each_both}
use Rattle.base.specs.Places.{count, Lowest, lowest_is, count-le, count_less, count_most}
use Rattle.base.specs.Rising.{length-rising, rising_at}
use Rattle.graph.specs.Edge.{Edge, cost, Rises}
use Rattle.graph.specs.Removed.{removed}
use Rattle.graph.specs.Depth.{peak, every, depth}
use Rattle.graph.specs.Accepts.{Accepts}
use Rattle.graph.specs.Right.{Least, Stuck, Right}
use Rattle.graph.specs.Derive.{Derived, ranks, cycle, table, lowest_left, derive}
use Rattle.graph.specs.Grounded.{Grounded}
use Rattle.graph.proofs.Cost.{cost_strict, cost-plain}
use Rattle.graph.proofs.Rounds.{removed_closed}
use Rattle.graph.proofs.Depths.{depth_rises, depth_least, depth_step}
use Rattle.graph.proofs.Paths.{each_in, peak_is}

-- what holds of the edges into each vertex holds of each edge
each_target : (n : ℕ) (Q : ℕ → Edge → Type 0) (es : List Edge) → Each (λ e. e.target < n) es
    → ((v : ℕ) → v < n → Each (λ e. e.target ≡ v → Q v e) es) → Each (λ e. Q e.target e) es
each_target n Q [] t h = tt
each_target n Q (e ∷ es) t h = ((h e.target t.0).0 refl, each_target n Q es t.1 (λ v l. (h v l).1))

module _ (A n : ℕ) (es : List Edge) (few : A ≤ n) (rises : Each (Rises A n) es) where
  sources : Each (λ e. e.source < n) es
  sources = each_map _ _ es (λ e r. r.source_in) rises

  -- a graph that accepts ranks is removed whole
  accepted_removed : (R : ℕ → ℕ) → Accepts A R es → (k b v : ℕ) → R v < k → v < b → v < n → removed es n v ≡ true
  accepted_removed R acc zero b v l m h = absurd (omega arith)
  accepted_removed R acc (suc k) zero v l m h = absurd (omega arith)
  accepted_removed R acc (suc k) (suc b) v l m h =
      removed_closed es n sources v h
      (each_both _ _ _ es
      (λ e r a i.
      let t : R e.target ≡ R v = ap R i in
      ⊎_elim
      (λ s. accepted_removed R acc k n e.source (omega (arith, cost_strict A e s)) r.source_in r.source_in)
      (λ p. accepted_removed R acc (suc k) b e.source (omega arith) (omega (arith, r.up p)) r.source_in)
      (below_or e.target A))
      rises acc)

  -- so is one whose atoms are: what is no atom has lower predecessors alone
  atoms_removed : ((a : ℕ) → a < A → removed es n a ≡ true) → (b v : ℕ) → v < b → v < n → removed es n v ≡ true
  atoms_removed atoms zero v l h = absurd (omega arith)
  atoms_removed atoms (suc b) v l h =
      ⊎_elim (atoms v)
      (λ p. removed_closed es n sources v h (each_map _ _ es (λ e r i. atoms_removed atoms b e.source (omega (arith, r.up (omega arith))) r.source_in) rises))
      (below_or v A)

  depth_accepted : ((v : ℕ) → v < n → removed es n v ≡ true) → Accepts A (depth A es n) es
  depth_accepted all =
      each_target n (λ v e. depth A es n e.source + cost A e ≤ depth A es n v) es (each_map _ _ es (λ e r. r.target_in) rises)
      (λ v l. depth_rises A es n v (all v l))

  pub derive_right : Right A n es (derive A n es)
  unfolding derive
  derive_right = go (ltb (lowest_left A n es) A) refl
    where
      low : Lowest (λ v. not (removed es n v)) 0 A (lowest_left A n es)
      low = lowest_is (λ v. not (removed es n v)) 0 A

      lower : (u : ℕ) → u < lowest_left A n es → removed es n u ≡ true
      lower u l = not-false (removed es n u) (low.before u (omega arith) l)

      go : (c : Bool) → ltb (lowest_left A n es) A ≡ c → Right A n es (cond c (cycle (lowest_left A n es)) (ranks (table (depth A es n) A)))
      go true i =
          let l : lowest_left A n es < A = ltb-true (lowest_left A n es) A i in
          let left : removed es n (lowest_left A n es) ≡ false = not-true (removed es n (lowest_left A n es)) (low.here (omega arith)) in
          record {
            atom = l;
            left = left;
            lower = lower;
            none = λ R acc. false≢true (sym left ∙ accepted_removed R acc (suc (R (lowest_left A n es))) n (lowest_left A n es) (omega arith) (omega arith) (omega arith));
          }
      go false i =
          record {
            rank = depth A es n;
            accepted = depth_accepted (λ v l. atoms_removed (λ a h. lower a (omega (arith, ltb-false (lowest_left A n es) A i))) n v l l);
            least = λ R acc v. depth_least A es R acc n v;
            long = length-rising 0 (λ made k. depth A es n k) A;
            atoms = λ a l. rising_at 0 (λ made k. depth A es n k) A a l;
          }

  pub ranks_right : (rs : List ℕ) → derive A n es ≡ ranks rs → Least A es rs
  ranks_right rs e = rw e at derive_right

  pub cycle_right : (a : ℕ) → derive A n es ≡ cycle a → Stuck A n es a
  cycle_right a e = rw e at derive_right

  pub cycle_exactly : ((a : ℕ) × (derive A n es ≡ cycle a)) ↔ ((R : ℕ → ℕ) → Accepts A R es → ⊥)
  cycle_exactly = (λ w. (cycle_right w.0 w.1).none, λ f. go f (derive A n es) refl)
    where
      go : ((R : ℕ → ℕ) → Accepts A R es → ⊥) → (d : Derived) → derive A n es ≡ d → (a : ℕ) × (derive A n es ≡ cycle a)
      go f (ranks rs) e = let l = ranks_right rs e in absurd (f l.rank l.accepted)
      go f (cycle a) e = (a, e)

-- ---- ranks below the number of atoms

module _ (A n : ℕ) (es : List Edge) (rises : Each (Rises A n) es) (grounded : Grounded A es) (D : ℕ → ℕ) (accepted : Accepts A D es) (equal : (v : ℕ) → v < n → D v ≡ peak A every D v es) where
  -- a source that is no atom has a predecessor of its own depth
  predecessor : (s : ℕ) → A ≤ s → s < n → (d : Edge) × Memᴰ d es × (d.target ≡ s) → (d : Edge) × Memᴰ d es × (d.target ≡ s) × (D d.source ≡ D s)
  predecessor s p l w =
      let q : D w.0.source + cost A w.0 ≤ D w.0.target = each_in _ w.0 es accepted w.1 in
      ⊎_elim
      (λ z. (w.0, w.1, w.2, omega (arith, equal s l, ap D w.2)))
      (λ x. (x.0, x.1, x.2, omega (arith, equal s l, x.3, cost-plain A x.0 (omega (arith, x.2)))))
      (peak_is A D s es)

  -- so an atom has the depth of each source
  level : (b s : ℕ) → s < b → s < n → (A ≤ s → (d : Edge) × Memᴰ d es × (d.target ≡ s)) → (u : ℕ) × (u < A) × (D u ≡ D s)
  level zero s l h g = absurd (omega arith)
  level (suc b) s l h g =
      ⊎_elim (λ a. (s, a, refl))
      (λ p.
      let w = predecessor s p h (g p) in
      let r : Rises A n w.0 = each_in _ w.0 es rises w.1 in
      let x = level b w.0.source (omega (arith, r.up (omega (arith, w.2)), w.2)) r.source_in (each_in _ w.0 es grounded w.1) in
      (x.0, x.1, x.2 ∙ w.3))
      (below_or s A)

  -- how many atoms lie below v
  below : ℕ → ℕ
  below v = count (λ u. ltb (D u) (D v)) 0 A

  below_accepted : Accepts A below es
  unfolding below
  below_accepted =
      each_both (λ e. D e.source + cost A e ≤ D e.target → below e.source + cost A e ≤ below e.target) _ _ es (λ e f. f)
      (each_both _ _ _ es step rises grounded) accepted
    where
      higher : (e : Edge) → D e.source ≤ D e.target → (u : ℕ) → ltb (D u) (D e.source) ≡ true → ltb (D u) (D e.target) ≡ true
      higher e q u t = lt-ltb (D u) (D e.target) (omega (arith, ltb-true (D u) (D e.source) t))

      step : (e : Edge) → Rises A n e → (A ≤ e.source → (d : Edge) × Memᴰ d es × (d.target ≡ e.source))
          → D e.source + cost A e ≤ D e.target → below e.source + cost A e ≤ below e.target
      step e r g q =
          ⊎_elim
          (λ s.
          let x = level n e.source r.source_in r.source_in g in
          let c : cost A e ≡ 1 = cost_strict A e s in
          omega (
            arith,
            count_less (λ u. ltb (D u) (D e.source)) (λ u. ltb (D u) (D e.target)) 0 A x.0 (omega arith) (omega (arith, x.1))
                (le-ltb (D x.0) (D e.source) (omega (arith, x.2))) (lt-ltb (D x.0) (D e.target) (omega (arith, x.2)))
                (λ u a b. higher e (omega arith) u),
          ))
          (λ p.
          omega (
            arith,
            cost-plain A e p,
            count-le (λ u. ltb (D u) (D e.source)) (λ u. ltb (D u) (D e.target)) 0 A (λ u a b. higher e (omega arith) u),
          ))
          (below_or e.target A)

  below_atoms : (a : ℕ) → a < A → below a < A
  unfolding below
  below_atoms a l =
      omega (
        arith,
        count_less (λ u. ltb (D u) (D a)) (λ u. true) 0 A a (omega arith) (omega arith) (le-ltb (D a) (D a) (omega arith)) refl (λ u p q t. refl),
        count_most (λ u. true) 0 A,
      )

pub rank_below : (A n : ℕ) (es : List Edge) → A ≤ n → Each (Rises A n) es → Grounded A es
    → (rs : List ℕ) → derive A n es ≡ ranks rs → (a : ℕ) → a < A → get_or rs a 0 < A
rank_below A n es few rises grounded rs e a l =
    omega (
      arith,
      best.atoms a l,
      best.least (below A n es rises grounded (depth A es n) accepted equal) (below_accepted A n es rises grounded (depth A es n) accepted equal) a,
      below_atoms A n es rises grounded (depth A es n) accepted equal a l,
    )
  where
    best : Least A es rs
    best = ranks_right A n es few rises rs e

    all : (v : ℕ) → v < n → removed es n v ≡ true
    all v h = accepted_removed A n es few rises best.rank best.accepted (suc (best.rank v)) n v (omega arith) h h

    accepted : Accepts A (depth A es n) es
    accepted = depth_accepted A n es few rises all

    equal : (v : ℕ) → v < n → depth A es n v ≡ peak A every (depth A es n) v es
    equal v h = depth_step A es n v (all v h)
