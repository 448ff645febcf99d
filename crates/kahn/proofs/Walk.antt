-- The walk along the links of a vertex that was taken out.
-- Assumes nothing.
use Prim.Native.Nat.{ℕ, suc, ◌+◌, ◌*◌, ◌-◌, ◌≤◌, ◌<◌}
use native.Mathlib.Numerals.{add-one}
use native.Mathlib.Omega.{arith}
use mathlib.Core.Path.{◌≡◌, refl, ap, sym, ◌∙◌}
use mathlib.Core.Logic.{⊎_elim}
use mathlib.Core.Bool.{true}
use mathlib.Core.List.{List, [], ◌∷◌, ◌++◌}
use lib.ListN.{length, get_or, take}
use Rattle.base.specs.Tests.{below_or}
use Rattle.graph.specs.Edge.{Edge, edge}
use Rattle.graph.specs.Removal.{relax, edges_from}
use Rattle.graph.specs.Removing.{has, Removing}
use Rattle.graph.proofs.Depths.{depth_small}
use Rattle.graph.proofs.Kahn.{room, ranked, next_vertex, next_taken, removing_take, degree_left, removing_relax, taken_stays}
use Rattle.kahn.specs.Area.{Sized, state_in, LinksKept}
use Rattle.kahn.specs.Laid.{Chain, stop, link, Chains}
use Rattle.kahn.specs.Draining.{Draining}
use Rattle.kahn.proofs.Sections.{queue_long, degree_in, rank_in, queue_in}
use Rattle.kahn.proofs.Kept.{kept_none, kept_more, sized-kept, chain_kept, chains_kept}

-- c vertices are taken out, the last of them s; what is left of its edges is reached from link p
pub record Walking (A : ℕ) (es : List Edge) (n m c s p q : ℕ) (area : List ℕ) : Type 0 where
  pub rest : List Edge
  pub fits : q ≤ n
  pub vertex : s < n
  pub chain : Chain n m area s p rest
  pub removing : Removing A es n c rest (state_in n q area)
  pub taken : has (take c (state_in n q area).queue) s ≡ true
  pub chains : Chains n m es area

pub walk_start_lem : (A : ℕ) (es : List Edge) (n m c q s p : ℕ) (area : List ℕ) → Sized n m area → Draining A es n m c q area → c < q
    → s ≡ get_or area (3 * n + c) 0 → p ≡ get_or area s 0 → Walking A es n m (c + 1) s p q area
walk_start_lem A es n m c q s p area sized d l es-is p-is =
    record {
      rest = edges_from s es;
      fits = d.fits;
      vertex = vertex;
      chain = rw p-is (d.chains s vertex);
      removing = rw (add-one, source) (removing_take A es n c (state_in n q area) d.removing more);
      taken = rw (add-one, source) (next_taken A es n c (state_in n q area) d.removing more);
      chains = d.chains;
    }
  where
    long : 4 * n ≤ length area
    long = omega (arith, sized.long)

    more : c < length (state_in n q area).queue
    more = omega (arith, queue_long n q area long d.fits)

    source : s ≡ get_or (state_in n q area).queue c 0
    source = es-is ∙ sym (queue_in n q area long d.fits c l)

    vertex : s < n
    vertex = rw source (next_vertex A es n c (state_in n q area) d.removing more)

-- the next edge is in range, its target has a degree to lose, its source its rank; and the walk goes on
pub record Next (A : ℕ) (es : List Edge) (n m c s i q : ℕ) (area : List ℕ) : Type 0 where
  pub edge_in : i < m
  pub source_in : s < n
  pub target_in : get_or area (4 * n + i) 0 < n
  pub left : 0 < get_or area (n + get_or area (4 * n + i) 0) 0
  pub room : q < n
  pub rank : get_or area (2 * n + s) 0 ≤ n
  pub falls : get_or area (4 * n + m + i) 0 ≤ i
  pub after : (r : ℕ) (next : List ℕ) → r ≤ q + 1 → state_in n r next ≡ relax A (edge s (get_or area (4 * n + i) 0)) (state_in n q area) → LinksKept n area next
      → Walking A es n m c s (get_or area (4 * n + m + i) 0) r next

module _ (A : ℕ) (es : List Edge) (n m c s i q : ℕ) (area : List ℕ) (sized : Sized n m area) where
  next_edge : (t next : ℕ) (ys : List Edge) → i < m → t < n → next ≤ i → get_or area (4 * n + i) 0 ≡ t → get_or area (4 * n + m + i) 0 ≡ next
      → Chain n m area s next ys → s < n → q ≤ n → Removing A es n c (ys ++ (edge s t ∷ [])) (state_in n q area) → has (take c (state_in n q area).queue) s ≡ true
      → Chains n m es area → Next A es n m c s i q area
  next_edge t next ys a b d x y chain vertex few inv taken chains =
      record {
        edge_in = a;
        source_in = vertex;
        target_in = rw x b;
        left = rw x (omega (arith, degree_in n q area long few t b, some));
        room = free;
        rank = omega (arith, rank_in n q area long few s vertex, ranked A es n c zs (state_in n q area) inv s taken, depth_small A es n s);
        falls = rw y d;
        after = λ r area' grown e kept.
            rw y
            (record {
              rest = ys;
              fits = omega (arith, free);
              vertex = vertex;
              chain = chain_kept n m area area' kept s next ys chain;
              removing = rw (e, x) (removing_relax A es n c (edge s t) ys (state_in n q area) inv b taken);
              taken = rw (e, x) (ap (λ f. f s) (taken_stays A es n c (edge s t) ys (state_in n q area) inv b taken) ∙ taken);
              chains = chains_kept n m area area' kept es chains;
            });
      }
    where
      long : 4 * n ≤ length area
      long = omega (arith, sized.long)

      zs : List Edge
      zs = ys ++ (edge s t ∷ [])

      some : 0 < get_or (state_in n q area).degrees t 0
      some = omega (arith, degree_left A es n c (edge s t) ys (state_in n q area) inv b taken)

      free : q < n
      free = omega (arith, queue_long n q area long few, room A es n c zs (state_in n q area) inv t b some)

  pub walk_step : Walking A es n m c s (suc i) q area → Next A es n m c s i q area
  walk_step w = go w.rest w.chain w.removing
    where
      go : (zs : List Edge) → Chain n m area s (suc i) zs → Removing A es n c zs (state_in n q area) → Next A es n m c s i q area
      go zs (link j t next {zs = ys} a b d x y chain) inv = next_edge t next ys a b d x y chain w.vertex w.fits inv w.taken w.chains

pub next-left : (A : ℕ) (es : List Edge) (n m c s i q : ℕ) (area : List ℕ) → Next A es n m c s i q area → (t : ℕ) → t ≡ get_or area (4 * n + i) 0 → 0 < get_or area (n + t) 0
next-left A es n m c s i q area h t e = rw e h.left

pub walk_end : (A : ℕ) (es : List Edge) (n m c s q : ℕ) (area : List ℕ) → Walking A es n m c s 0 q area → Draining A es n m c q area
walk_end A es n m c s q area w = record { fits = w.fits; chains = w.chains; removing = go 0 refl w.rest w.chain w.removing }
  where
    go : (p : ℕ) → p ≡ 0 → (zs : List Edge) → Chain n m area s p zs → Removing A es n c zs (state_in n q area) → Removing A es n c [] (state_in n q area)
    go p e zs stop inv = inv
    go p e zs (link j t next a b d x y chain) inv = absurd (omega arith)

-- what the walk along the links of s keeps, from the area before it
pub record Spreading (A n m c queued s p q : ℕ) (before area : List ℕ) : Type 0 where
  pub kept : LinksKept n before area
  pub walks : (es : List Edge) → Draining A es n m c queued before → Walking A es n m (c + 1) s p q area

module _ (A n m c queued s : ℕ) (before : List ℕ) (sized : Sized n m before) where
  pub spreading_starts : (p : ℕ) → c < queued → s ≡ get_or before (3 * n + c) 0 → p ≡ get_or before s 0 → Spreading A n m c queued s p queued before before
  spreading_starts p l e f = record { kept = kept_none n before; walks = λ es d. walk_start_lem A es n m c queued s p before sized d l e f }

  module _ (p q : ℕ) (area : List ℕ) (w : Spreading A n m c queued s p q before area) where
    pub spreading_next : (es : List Edge) → Draining A es n m c queued before → (p ≡ 0 → ⊥) → Next A es n m (c + 1) s (p - 1) q area
    spreading_next es d more =
        let one_more : p ≡ suc (p - 1) = omega (arith, zero_or p more) in
        walk_step A es n m (c + 1) s (p - 1) q area
        (sized-kept n m before area sized w.kept)
        (rw one_more at (w.walks es d))
      where
        zero_or : (k : ℕ) → (k ≡ 0 → ⊥) → 0 < k
        zero_or k h = ⊎_elim (λ l. absurd (h (omega arith))) (λ l. l) (below_or k 1)

    pub spreading_more : (t next r : ℕ) (after : List ℕ) → (p ≡ 0 → ⊥) → t ≡ get_or area (4 * n + (p - 1)) 0 → next ≡ get_or area (4 * n + m + (p - 1)) 0
        → (state_in n r after ≡ relax A (edge s t) (state_in n q area)) × (LinksKept n area after × (r ≤ q + 1)) → Spreading A n m c queued s next r before after
    spreading_more t next r after more e f is =
        record {
          kept = kept_more n before area after w.kept is.1.0;
          walks = λ es d.
              rw f
              ((spreading_next es d more).after r after is.1.1 (is.0 ∙ ap (λ v. relax A (edge s v) (state_in n q area)) e) is.1.0);
        }

    pub spreading_ends : p ≡ 0 → ((es : List Edge) → Draining A es n m c queued before → Draining A es n m (c + 1) q area) × LinksKept n before area
    spreading_ends e = (λ es d. walk_end A es n m (c + 1) s q area (rw e at (w.walks es d)), w.kept)
