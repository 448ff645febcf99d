-- What each store of the crate's functions does to the sections.
-- Assumes nothing.
use Prim.Native.Nat.{ℕ, ◌+◌, ◌*◌, ◌-◌, ◌≤◌, ◌<◌, max}
use native.Mathlib.Numerals.{add-one}
use native.Mathlib.Omega.{arith}
use mathlib.Core.Path.{◌≡◌, refl, ap, ap₂, sym, ◌∙◌}
use mathlib.Core.Bool.{Bool, true, false, cond}
use mathlib.Core.List.{List, [], ◌∷◌, ◌++◌}
use lib.Dec.{eqb, ltb}
use lib.ListN.{length, get_or, set, length-set}
use lib.Seq.{get_or-set_same, get_or-set_other}
use borrow.Author.Tests.{eq-eqb, ne_eqb}
use Rattle.base.specs.Places.{places, places-end}
use Rattle.graph.specs.Edge.{edge, one, cost}
use Rattle.graph.specs.Removal.{relax}
use Rattle.kahn.specs.Area.{part, state_in, LinksKept}
use Rattle.kahn.specs.Seeding.{pushing, pushed, Seeding}
use Rattle.kahn.proofs.Sections.{part_at, part_in, part_below, part_above, part-push}

-- ---- a vertex is queued, or not

module _ (n q v : ℕ) (area : List ℕ) where
  pub push_yes : (r : ℕ) (after : List ℕ) → get_or area (n + v) 0 ≡ 0 → after ≡ set area (3 * n + q) v → r ≡ q + 1
      → (after ≡ pushing n q v area) × (r ≡ pushed n q v area)
  unfolding pushing pushed
  push_yes r after z e f = let t : eqb (get_or area (n + v) 0) 0 ≡ true = eq-eqb _ 0 z in (e ∙ rw t, f ∙ rw t)

  pub push_no : (r : ℕ) (after : List ℕ) → (get_or area (n + v) 0 ≡ 0 → ⊥) → after ≡ area → r ≡ q
      → (after ≡ pushing n q v area) × (r ≡ pushed n q v area)
  unfolding pushing pushed
  push_no r after z e f = let t : eqb (get_or area (n + v) 0) 0 ≡ false = ne_eqb _ 0 z in (e ∙ rw t, f ∙ rw t)

  module _ (long : 4 * n ≤ length area) (room : q < n) where
    -- the queue, and the words outside it
    pub pushed_queue : part (3 * n) (pushed n q v area) (pushing n q v area)
        ≡ cond (eqb (get_or area (n + v) 0) 0) (part (3 * n) q area ++ (v ∷ [])) (part (3 * n) q area)
    unfolding pushing pushed
    pushed_queue = go (eqb (get_or area (n + v) 0) 0)
      where
        go : (t : Bool) → part (3 * n) (cond t (q + 1) q) (cond t (set area (3 * n + q) v) area) ≡ cond t (part (3 * n) q area ++ (v ∷ [])) (part (3 * n) q area)
        go true = rw add-one (part-push (3 * n) q area v (omega arith))
        go false = refl

    pub pushed_long : length (pushing n q v area) ≡ length area
    unfolding pushing
    pushed_long = go (eqb (get_or area (n + v) 0) 0)
      where
        go : (t : Bool) → length (cond t (set area (3 * n + q) v) area) ≡ length area
        go true = length-set area (3 * n + q) v
        go false = refl

    pub pushed_other : (k : ℕ) → (k ≡ 3 * n + q → ⊥) → get_or (pushing n q v area) k 0 ≡ get_or area k 0
    unfolding pushing
    pushed_other k h = go (eqb (get_or area (n + v) 0) 0)
      where
        go : (t : Bool) → get_or (cond t (set area (3 * n + q) v) area) k 0 ≡ get_or area k 0
        go true = get_or-set_other area (3 * n + q) k v 0 h
        go false = refl

    pub pushed-part : (b k : ℕ) → b + k ≤ 3 * n → part b k (pushing n q v area) ≡ part b k area
    unfolding pushing
    pushed-part b k l = go (eqb (get_or area (n + v) 0) 0)
      where
        go : (t : Bool) → part b k (cond t (set area (3 * n + q) v) area) ≡ part b k area
        go true = part_above b k area (3 * n + q) v (omega arith)
        go false = refl

  pub pushed_most : pushed n q v area ≤ q + 1
  unfolding pushed
  pushed_most = go (eqb (get_or area (n + v) 0) 0)
    where
      go : (t : Bool) → cond t (q + 1) q ≤ q + 1
      go true = omega arith
      go false = omega arith

-- ---- the first vertices of the queue

pub seeding_none : (n : ℕ) (area : List ℕ) → Seeding n 0 0 area area
unfolding places
seeding_none n area = record { long = refl; low = λ k l. refl; high = λ k l. refl; few = omega arith; queue = refl }

pub seeding_more : (n v q r : ℕ) (before area after : List ℕ) → Seeding n v q before area → v < n → 4 * n ≤ length before
    → (after ≡ pushing n q v area) × (r ≡ pushed n q v area) → Seeding n (v + 1) r before after
seeding_more n v q r before area after s l long is =
    rw (is.0, is.1)
    (record {
      long = pushed_long n q v area fits room ∙ s.long;
      low = λ k h. pushed_other n q v area fits room k (λ e. omega arith) ∙ s.low k h;
      high = λ k h. pushed_other n q v area fits room k (λ e. omega arith) ∙ s.high k h;
      few = omega (arith, pushed_most n q v area, s.few);
      queue = pushed_queue n q v area fits room ∙ rw (s.low (n + v) (omega arith), s.queue) (sym (places-end p v));
    })
  where
    fits : 4 * n ≤ length area
    fits = omega (arith, s.long)

    room : q < n
    room = omega (arith, s.few)

    p : ℕ → Bool
    p u = eqb (get_or before (n + u) 0) 0

-- ---- one edge gone over

module _ (A n q s t : ℕ) (area : List ℕ) (long : 4 * n ≤ length area) (room : q < n) (from : s < n) (onto : t < n) where
  abbrev less : ℕ
  less = get_or area (n + t) 0 - 1

  abbrev most : ℕ
  most = max (get_or area (2 * n + t) 0) (get_or area (2 * n + s) 0 + cost A (edge s t))

  -- the two stores that every edge makes
  abbrev pub stored : List ℕ
  stored = set (set area (n + t) less) (2 * n + t) most

  stored_long : length stored ≡ length area
  stored_long = length-set (set area (n + t) less) (2 * n + t) most ∙ length-set area (n + t) less

  stored_degrees : part n n stored ≡ set (part n n area) t (get_or (part n n area) t 0 - 1)
  stored_degrees =
      part_above n n (set area (n + t) less) (2 * n + t) most (omega arith) ∙ part_in n n area t less onto
      ∙ ap (λ x. set (part n n area) t (x - 1)) (sym (part_at n n area t onto))

  stored_ranks : part (2 * n) n stored ≡ set (part (2 * n) n area) t (max (get_or (part (2 * n) n area) t 0) (get_or (part (2 * n) n area) s 0 + cost A (edge s t)))
  stored_ranks =
      part_in (2 * n) n (set area (n + t) less) t most onto
      ∙ ap₂ (λ l x. set l t x) (part_below (2 * n) n area (n + t) less (omega arith))
      (ap₂ (λ x y. max x (y + cost A (edge s t))) (sym (part_at (2 * n) n area t onto)) (sym (part_at (2 * n) n area s from)))

  stored_queue : part (3 * n) q stored ≡ part (3 * n) q area
  stored_queue = part_below (3 * n) q (set area (n + t) less) (2 * n + t) most (omega arith) ∙ part_below (3 * n) q area (n + t) less (omega arith)

  stored_degree : get_or stored (n + t) 0 ≡ get_or (part n n area) t 0 - 1
  stored_degree =
      get_or-set_other (set area (n + t) less) (2 * n + t) (n + t) most 0 (λ e. omega arith)
      ∙ get_or-set_same area (n + t) less 0 (omega arith) ∙ ap (λ x. x - 1) (sym (part_at n n area t onto))

  pub relax_is : (after : List ℕ) (r : ℕ) → after ≡ pushing n q t stored → r ≡ pushed n q t stored
      → state_in n r after ≡ relax A (edge s t) (state_in n q area)
  unfolding state_in relax
  relax_is after r e f =
      rw (e, f)
      (λ i.
      record {
        degrees = (pushed-part n q t stored fits room n n (omega arith) ∙ stored_degrees) i;
        ranks = (pushed-part n q t stored fits room (2 * n) n (omega arith) ∙ stored_ranks) i;
        queue = (pushed_queue n q t stored fits room ∙ ap₂ (λ d l. cond (eqb d 0) (l ++ (t ∷ [])) l) stored_degree stored_queue) i;
      })
    where
      fits : 4 * n ≤ length stored
      fits = omega (arith, stored_long)

  pub relax-kept : (after : List ℕ) → after ≡ pushing n q t stored → LinksKept n area after
  relax-kept after e =
      rw e
      (record {
        long = pushed_long n q t stored fits room ∙ stored_long;
        first = λ k l. other k (λ z. omega arith) (λ z. omega arith) (λ z. omega arith);
        edges = λ k l. other k (λ z. omega arith) (λ z. omega arith) (λ z. omega arith);
      })
    where
      fits : 4 * n ≤ length stored
      fits = omega (arith, stored_long)

      other : (k : ℕ) → (k ≡ n + t → ⊥) → (k ≡ 2 * n + t → ⊥) → (k ≡ 3 * n + q → ⊥) → get_or (pushing n q t stored) k 0 ≡ get_or area k 0
      other k a b c =
          pushed_other n q t stored fits room k c ∙ get_or-set_other (set area (n + t) less) (2 * n + t) k most 0 b ∙ get_or-set_other area (n + t) k less 0 a

  -- the same, of the words read and computed
  pub relaxed : (degree before above paid rank r : ℕ) (after : List ℕ) → degree ≡ get_or area (n + t) 0 → before ≡ get_or area (2 * n + t) 0
      → above ≡ get_or area (2 * n + s) 0 → paid ≡ one (ltb t A) → rank ≡ max before (above + paid)
      → (after ≡ pushing n q t (set (set area (n + t) (degree - 1)) (2 * n + t) rank)) × (r ≡ pushed n q t (set (set area (n + t) (degree - 1)) (2 * n + t) rank))
      → (state_in n r after ≡ relax A (edge s t) (state_in n q area)) × (LinksKept n area after × (r ≤ q + 1))
  relaxed degree before above paid rank r after a b c d e p =
      let x : after ≡ pushing n q t stored = p.0 ∙ ap (pushing n q t) same in
      let y : r ≡ pushed n q t stored = p.1 ∙ ap (pushed n q t) same in
      (relax_is after r x y, (relax-kept after x, omega (arith, pushed_most n q t stored)))
    where
      same : set (set area (n + t) (degree - 1)) (2 * n + t) rank ≡ stored
      same = rw (e, a, b, c, d)
