-- Kahn's removal: its invariant holds at the start and through each step, whatever order a vertex's edges are gone over in.
-- Assumes nothing.
use Prim.Native.Nat.{ℕ, suc, ◌+◌, ◌-◌, ◌≤◌, ◌<◌, max}
use native.Mathlib.Omega.{arith}
use mathlib.Core.Path.{◌≡◌, refl, ap, sym, ◌∙◌}
use mathlib.Core.Logic.{⊎_elim}
use mathlib.Core.Bool.{Bool, true, false, cond, ◌&&◌, false≢true}
use mathlib.Core.List.{List, [], ◌∷◌, ◌++◌}
use lib.Dec.{eqb, ltb}
use lib.ListN.{length, get_or, set, take, length-set, length-append}
use lib.Seq.{get_or-set_same, get_or-set_other, take-append-le}
use borrow.Author.Tests.{eqb-true, eqb-false, eq-eqb, ne_eqb, ltb-true, lt-ltb, le-ltb}
use Rattle.base.specs.Tests.{below_or, and-true}
use Rattle.base.specs.Each.{each_all}
use Rattle.base.specs.Places.{count_less, count_most}
use Rattle.graph.specs.Edge.{Edge, one, cost}
use Rattle.graph.specs.Removed.{remaining, removed}
use Rattle.graph.specs.Depth.{peak, every, depth}
use Rattle.graph.specs.Removal.{State, relax, edges_from}
use Rattle.graph.specs.Removing.{times, has, none, Removing}
use Rattle.graph.proofs.Rounds.{remaining_mono, remaining-append, removed_late}
use Rattle.graph.proofs.Depths.{peak_agree, peak-append, depth_step}
use Rattle.graph.proofs.Ones.{one_most, one_neither, zero_one, one_zero}
use Rattle.graph.proofs.Times.{times_push, times-take, times-suc, length-count}
use Rattle.graph.proofs.TakenOut.{remaining_out, peak_out, peak_none}

-- ---- the start: the queue has the vertices of degree 0

pub removing_starts : (A : ℕ) (es : List Edge) (n : ℕ) (s : State) → length s.degrees ≡ n → length s.ranks ≡ n
    → ((v : ℕ) → v < n → get_or s.degrees v 0 ≡ remaining none v es) → ((v : ℕ) → v < n → get_or s.ranks v 0 ≡ 0)
    → ((v : ℕ) → v < n → times v s.queue ≡ one (eqb (get_or s.degrees v 0) 0)) → ((v : ℕ) → n ≤ v → times v s.queue ≡ 0)
    → Removing A es n 0 [] s
unfolding remaining peak times
removing_starts A es n s ld lr hd hr ho hv =
    record {
      degrees_long = ld;
      ranks_long = lr;
      reached = omega arith;
      degree = λ v l. omega (arith, hd v l);
      rank = λ v l. omega (arith, hr v l, peak_none A (depth A es n) v es);
      once = ho;
      vertices = hv;
      rounds = λ u h. absurd (false≢true h);
    }

-- ---- the steps

module _ (A : ℕ) (es : List Edge) (n : ℕ) where
  module _ (c : ℕ) (zs : List Edge) (s : State) (inv : Removing A es n c zs s) where
    at_most : (v : ℕ) → times v s.queue ≤ 1
    at_most v =
        ⊎_elim (λ l. omega (arith, inv.once v l, one_most (eqb (get_or s.degrees v 0) 0))) (λ l. omega (arith, inv.vertices v l)) (below_or v n)

    -- the queue has room, and more where a vertex is left
    pub fits : length s.queue ≤ n
    fits = omega (arith, length-count n s.queue inv.vertices at_most, count_most (has s.queue) 0 n)

    pub room : (v : ℕ) → v < n → 0 < get_or s.degrees v 0 → length s.queue < n
    room v l h =
        let z : times v s.queue ≡ 0 = inv.once v l ∙ one_zero (get_or s.degrees v 0) h in
        omega (
          arith,
          length-count n s.queue inv.vertices at_most,
          count_less (has s.queue) every 0 n v (omega arith) (omega arith) (le-ltb 0 (times v s.queue) (omega arith)) refl (λ u a b t. refl),
          count_most every 0 n,
        )

    -- what is queued is a vertex whose degree is 0
    pub queued : (v : ℕ) → 0 < times v s.queue → (v < n) × (get_or s.degrees v 0 ≡ 0)
    queued v h =
        let l : v < n = ⊎_elim (λ a. a) (λ b. absurd (omega (arith, inv.vertices v b))) (below_or v n) in
        (l, zero_one (get_or s.degrees v 0) (omega (arith, inv.once v l)))

    -- and is removed in one round more
    next_round : (v : ℕ) → 0 < times v s.queue → removed es (suc c) v ≡ true
    unfolding removed
    next_round v h =
        let w = queued v h in
        eq-eqb (remaining (removed es c) v es) 0
        (omega (arith, inv.degree v w.0, w.1, remaining_mono (has (take c s.queue)) (removed es c) v es (each_all _ es (λ e. inv.rounds e.source))))

    -- what is taken out has its depth for its rank
    pub ranked : (v : ℕ) → has (take c s.queue) v ≡ true → get_or s.ranks v 0 ≡ depth A es n v
    ranked v h =
        let q : 0 < times v s.queue = omega (arith, ltb-true 0 (times v (take c s.queue)) h, times-take v c s.queue) in
        let w = queued v q in
        let z : remaining none v zs ≡ 0 = omega (arith, inv.degree v w.0, w.1) in
        let y : remaining (has (take c s.queue)) v es ≡ 0 = omega (arith, inv.degree v w.0, w.1) in
        let r : removed es n v ≡ true = removed_late es n c v (omega (arith, fits, inv.reached)) (inv.rounds v h) in
        omega (
          arith,
          inv.rank v w.0,
          peak_agree A none every none (depth A es n) (depth A es n) v zs z (λ u t. absurd (false≢true t)) (λ u t. refl),
          peak_agree A (has (take c s.queue)) (has (take c s.queue)) every (depth A es n) (depth A es n) v es y (λ u t. t) (λ u t. refl),
          depth_step A es n v r,
          peak_none A (depth A es n) v zs,
        )

  -- the vertex at the cursor is taken out
  module _ (c : ℕ) (s : State) (inv : Removing A es n c [] s) (l : c < length s.queue) where
    abbrev w : ℕ
    w = get_or s.queue c 0

    here : times w (take (suc c) s.queue) ≡ suc (times w (take c s.queue))
    here = times-suc w c s.queue l ∙ rw (eq-eqb w w refl) (omega arith)

    is_queued : 0 < times w s.queue
    is_queued = omega (arith, here, times-take w (suc c) s.queue)

    pub next_vertex : get_or s.queue c 0 < n
    next_vertex = (queued c [] s inv w is_queued).0

    pub next_taken : has (take (suc c) s.queue) (get_or s.queue c 0) ≡ true
    next_taken = lt-ltb 0 (times w (take (suc c) s.queue)) (omega (arith, here))

    pub removing_take : Removing A es n (suc c) (edges_from (get_or s.queue c 0) es) s
    unfolding remaining peak
    removing_take =
        record {
          degrees_long = inv.degrees_long;
          ranks_long = inv.ranks_long;
          reached = l;
          degree = λ v b. omega (arith, inv.degree v b, remaining_out p q w fresh next_taken same v es);
          rank = λ v b. omega (arith, inv.rank v b, peak_out p q w fresh next_taken same A (depth A es n) v es);
          once = inv.once;
          vertices = inv.vertices;
          rounds = λ u h. next_round c [] s inv u (omega (arith, ltb-true 0 (times u (take (suc c) s.queue)) h, times-take u (suc c) s.queue));
        }
      where
        p : ℕ → Bool
        p = has (take c s.queue)

        q : ℕ → Bool
        q = has (take (suc c) s.queue)

        fresh : p w ≡ false
        fresh = le-ltb 0 (times w (take c s.queue)) (omega (arith, here, times-take w (suc c) s.queue, at_most c [] s inv w))

        same : (u : ℕ) → (u ≡ w → ⊥) → q u ≡ p u
        same u d =
            let z : one (eqb u w) ≡ 0 = rw (ne_eqb u w d) in
            let t : times u (take (suc c) s.queue) ≡ times u (take c s.queue) = omega (arith, times-suc u c s.queue l) in
            ap (ltb 0) t

  -- one edge of it is gone over
  module _ (c : ℕ) (e : Edge) (zs : List Edge) (s : State) (inv : Removing A es n c (zs ++ (e ∷ [])) s) (b : e.target < n) (h : has (take c s.queue) e.source ≡ true) where
    abbrev t : ℕ
    t = e.target

    abbrev less : ℕ
    less = get_or s.degrees t 0 - 1

    abbrev most : ℕ
    most = max (get_or s.ranks t 0) (get_or s.ranks e.source 0 + cost A e)

    -- its target has a predecessor left
    pub degree_left : get_or s.degrees e.target 0 ≡ remaining (has (take c s.queue)) e.target es + suc (remaining none e.target zs)
    unfolding remaining
    degree_left =
        omega (arith, inv.degree e.target b, remaining-append none e.target zs (e ∷ []), ap (λ x. one (x && true)) (eq-eqb e.target e.target refl))

    queue_kept : (d : Bool) → take c (cond d (s.queue ++ (t ∷ [])) s.queue) ≡ take c s.queue
    queue_kept true = take-append-le c s.queue (t ∷ []) inv.reached
    queue_kept false = refl

    queue_long : (d : Bool) → c ≤ length (cond d (s.queue ++ (t ∷ [])) s.queue)
    queue_long true = omega (arith, length-append s.queue (t ∷ []), inv.reached)
    queue_long false = inv.reached

    queue_times : (d : Bool) (v : ℕ) → times v (cond d (s.queue ++ (t ∷ [])) s.queue) ≡ times v s.queue + one (d && eqb v t)
    queue_times true v = times_push v t s.queue
    queue_times false v = omega arith

    degree_at : (v : ℕ) → v < n → (d : Bool) → eqb t v ≡ d → get_or (set s.degrees t less) v 0 ≡ remaining (has (take c s.queue)) v es + remaining none v zs
    unfolding remaining
    degree_at v l true i =
        rw (← eqb-true t v i) (omega (arith, get_or-set_same s.degrees t less 0 (omega (arith, inv.degrees_long)), degree_left))
    degree_at v l false i =
        omega (
          arith,
          get_or-set_other s.degrees t v less 0 (λ j. eqb-false t v i (sym j)),
          inv.degree v l,
          remaining-append none v zs (e ∷ []),
          ap (λ x. one (x && true)) i,
        )

    rank_at : (v : ℕ) → v < n → (d : Bool) → eqb t v ≡ d
        → max (get_or (set s.ranks t most) v 0) (peak A every (depth A es n) v zs) ≡ peak A (has (take c s.queue)) (depth A es n) v es
    unfolding peak
    rank_at v l true i =
        rw (← eqb-true t v i)
        (omega (
          arith,
          get_or-set_same s.ranks t most 0 (omega (arith, inv.ranks_long)),
          ranked c (zs ++ (e ∷ [])) s inv e.source h,
          inv.rank t b,
          peak-append A every (depth A es n) t zs (e ∷ []),
          ap (λ x. cond (x && true) (depth A es n e.source + cost A e) 0) (eq-eqb t t refl),
        ))
    rank_at v l false i =
        omega (
          arith,
          get_or-set_other s.ranks t v most 0 (λ j. eqb-false t v i (sym j)),
          inv.rank v l,
          peak-append A every (depth A es n) v zs (e ∷ []),
          ap (λ x. cond (x && true) (depth A es n e.source + cost A e) 0) i,
        )

    once_at : (v : ℕ) → v < n → (d : Bool) → eqb v t ≡ d
        → times v (cond (eqb less 0) (s.queue ++ (t ∷ [])) s.queue) ≡ one (eqb (get_or (set s.degrees t less) v 0) 0)
    once_at v l true i =
        rw (eqb-true v t i, get_or-set_same s.degrees t less 0 (omega (arith, inv.degrees_long)))
        (omega (
          arith,
          queue_times (eqb less 0) t,
          ap one (ap (λ x. eqb less 0 && x) (eq-eqb t t refl) ∙ and-true (eqb less 0)),
          inv.once t b,
          one_zero (get_or s.degrees t 0) (omega (arith, degree_left)),
        ))
    once_at v l false i =
        rw (get_or-set_other s.degrees t v less 0 (eqb-false v t i))
        (omega (arith, queue_times (eqb less 0) v, inv.once v l, one_neither (eqb less 0) (eqb v t) i))

    pub removing_relax : Removing A es n c zs (relax A e s)
    unfolding relax
    removing_relax =
        record {
          degrees_long = length-set s.degrees t less ∙ inv.degrees_long;
          ranks_long = length-set s.ranks t most ∙ inv.ranks_long;
          reached = queue_long (eqb less 0);
          degree = λ v l. rw (queue_kept (eqb less 0)) (degree_at v l (eqb t v) refl);
          rank = λ v l. rw (queue_kept (eqb less 0)) (rank_at v l (eqb t v) refl);
          once = λ v l. once_at v l (eqb v t) refl;
          vertices = λ v l. omega (arith, queue_times (eqb less 0) v, inv.vertices v l, one_neither (eqb less 0) (eqb v t) (ne_eqb v t (λ i. omega arith)));
          rounds = rw (queue_kept (eqb less 0)) inv.rounds;
        }

    -- what was taken out stays so
    pub taken_stays : has (take c (relax A e s).queue) ≡ has (take c s.queue)
    unfolding relax
    taken_stays = rw (queue_kept (eqb less 0))
