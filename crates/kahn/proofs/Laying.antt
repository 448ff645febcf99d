-- Laying an edge keeps the area laid; a zeroed area has no edge.
-- Assumes nothing.
use Prim.Native.Nat.{ℕ, suc, ◌+◌, ◌*◌, ◌≤◌, ◌<◌}
use native.Mathlib.Numerals.{add-one}
use native.Mathlib.Omega.{arith}
use mathlib.Core.Path.{◌≡◌, refl, ap, sym, ◌∙◌}
use mathlib.Core.Logic.{⊎_elim}
use mathlib.Core.Bool.{Bool, true, false, cond, ◌&&◌}
use mathlib.Core.List.{List, [], ◌∷◌, ◌++◌, append-nil}
use lib.Dec.{eqb}
use lib.ListN.{length, get_or, set, length-set, length-append}
use lib.Seq.{get_or-set_same, get_or-set_other}
use borrow.Author.Tests.{eq-eqb, ne_eqb}
use Rattle.base.specs.Tests.{equal_or}
use Rattle.base.specs.Each.{each_append}
use Rattle.graph.specs.Edge.{Edge, edge, one}
use Rattle.graph.specs.Removed.{remaining}
use Rattle.graph.specs.Removal.{edges_from}
use Rattle.graph.specs.Removing.{none}
use Rattle.graph.proofs.Rounds.{remaining-append}
use Rattle.kahn.specs.Laid.{laying, Chain, stop, link, Laid}

-- the words that laying an edge stores
pub laid_words : (n m i s t next degree : ℕ) (area : List ℕ) → next ≡ get_or area s 0 → degree ≡ get_or area (n + t) 0
    → set (set (set (set area (4 * n + i) t) (4 * n + m + i) next) s (i + 1)) (n + t) (degree + 1) ≡ laying n m i s t area
unfolding laying
laid_words n m i s t next degree area a b = rw (a, b)

edges_append : (s : ℕ) (xs ys : List Edge) → edges_from s (xs ++ ys) ≡ edges_from s xs ++ edges_from s ys
unfolding edges_from
edges_append s [] ys = refl
edges_append s (x ∷ xs) ys = go (eqb x.source s) (edges_append s xs ys)
  where
    go : (c : Bool) → edges_from s (xs ++ ys) ≡ edges_from s xs ++ edges_from s ys
        → cond c (x ∷ edges_from s (xs ++ ys)) (edges_from s (xs ++ ys)) ≡ cond c (x ∷ edges_from s xs) (edges_from s xs) ++ edges_from s ys
    go true ih = ap (λ zs. x ∷ zs) ih
    go false ih = ih

edges_own : (s t : ℕ) (es : List Edge) → edges_from s (es ++ (edge s t ∷ [])) ≡ edges_from s es ++ (edge s t ∷ [])
unfolding edges_from
edges_own s t es = edges_append s es (edge s t ∷ []) ∙ rw (eq-eqb s s refl)

edges_other : (u s t : ℕ) (es : List Edge) → (s ≡ u → ⊥) → edges_from u (es ++ (edge s t ∷ [])) ≡ edges_from u es
unfolding edges_from
edges_other u s t es d = edges_append u es (edge s t ∷ []) ∙ rw (ne_eqb s u d) (append-nil _)

remaining_one : (v s t : ℕ) (es : List Edge) → remaining none v (es ++ (edge s t ∷ [])) ≡ remaining none v es + one (eqb t v)
unfolding remaining
remaining_one v s t es = remaining-append none v es (edge s t ∷ []) ∙ omega (arith, go (eqb t v))
  where
    go : (b : Bool) → one (b && true) ≡ one b
    go true = refl
    go false = refl

remaining-most : (v : ℕ) (es : List Edge) → remaining none v es ≤ length es
unfolding remaining
remaining-most v [] = omega arith
remaining-most v (e ∷ es) = omega (arith, go (eqb e.target v), remaining-most v es)
  where
    go : (b : Bool) → one (b && true) ≤ 1
    go true = omega arith
    go false = omega arith

-- a degree is at most the number of edges laid
pub degree_most : (n m : ℕ) (es : List Edge) (area : List ℕ) → Laid n m es area → (v : ℕ) → v < n → get_or area (n + v) 0 ≤ length es
degree_most n m es area laid v l = omega (arith, laid.degrees v l, remaining-most v es)

pub laid_none : (n m : ℕ) (area : List ℕ) → ((k : ℕ) → k < 3 * n → get_or area k 0 ≡ 0) → Laid n m [] area
unfolding edges_from remaining
laid_none n m area zeros =
    record {
      few = omega arith;
      within = tt;
      low = λ s l. omega (arith, zeros s (omega arith));
      chains = λ s l. rw (zeros s (omega arith)) stop;
      degrees = λ v l. zeros (n + v) (omega arith);
      ranks = λ v l. zeros (2 * n + v) (omega arith);
    }

module _ (n m s t : ℕ) (es : List Edge) (area : List ℕ) (long : 4 * n + 2 * m ≤ length area) (from : s < n) (onto : t < n) (room : length es < m) where
  abbrev i : ℕ
  i = length es

  abbrev after : List ℕ
  after = laying n m (length es) s t area

  abbrev first : List ℕ
  first = set area (4 * n + i) t

  abbrev second : List ℕ
  second = set first (4 * n + m + i) (get_or area s 0)

  abbrev third : List ℕ
  third = set second s (i + 1)

  abbrev degree : ℕ
  degree = get_or area (n + t) 0 + 1

  first_long : length first ≡ length area
  first_long = length-set area (4 * n + i) t

  second_long : length second ≡ length area
  second_long = length-set first (4 * n + m + i) (get_or area s 0) ∙ first_long

  third_long : length third ≡ length area
  third_long = length-set second s (i + 1) ∙ second_long

  other : (k : ℕ) → (k ≡ 4 * n + i → ⊥) → (k ≡ 4 * n + m + i → ⊥) → (k ≡ s → ⊥) → (k ≡ n + t → ⊥) → get_or after k 0 ≡ get_or area k 0
  unfolding laying
  other k a b c d =
      get_or-set_other third (n + t) k degree 0 d ∙ get_or-set_other second s k (i + 1) 0 c ∙ get_or-set_other first (4 * n + m + i) k (get_or area s 0) 0 b
      ∙ get_or-set_other area (4 * n + i) k t 0 a

  at_target : get_or after (4 * n + i) 0 ≡ t
  unfolding laying
  at_target =
      get_or-set_other third (n + t) (4 * n + i) degree 0 (λ e. omega arith) ∙ get_or-set_other second s (4 * n + i) (i + 1) 0 (λ e. omega arith)
      ∙ get_or-set_other first (4 * n + m + i) (4 * n + i) (get_or area s 0) 0 (λ e. omega arith) ∙ get_or-set_same area (4 * n + i) t 0 (omega arith)

  at_next : get_or after (4 * n + m + i) 0 ≡ get_or area s 0
  unfolding laying
  at_next =
      get_or-set_other third (n + t) (4 * n + m + i) degree 0 (λ e. omega arith) ∙ get_or-set_other second s (4 * n + m + i) (i + 1) 0 (λ e. omega arith)
      ∙ get_or-set_same first (4 * n + m + i) (get_or area s 0) 0 (omega (arith, first_long))

  at_source : get_or after s 0 ≡ suc i
  unfolding laying
  at_source =
      get_or-set_other third (n + t) s degree 0 (λ e. omega arith) ∙ get_or-set_same second s (i + 1) 0 (omega (arith, second_long)) ∙ add-one i

  at_degree : get_or after (n + t) 0 ≡ degree
  unfolding laying
  at_degree = get_or-set_same third (n + t) degree 0 (omega (arith, third_long))

  -- a chain of earlier edges stays
  chain_stays : (u p : ℕ) (zs : List Edge) → p ≤ i → Chain n m area u p zs → Chain n m after u p zs
  chain_stays u p zs l stop = stop
  chain_stays u p zs l (link j v next {zs = ys} a b d x y c) =
      link j v next a b d
      (other (4 * n + j) (λ e. omega arith) (λ e. omega arith) (λ e. omega arith) (λ e. omega arith) ∙ x)
      (other (4 * n + m + j) (λ e. omega arith) (λ e. omega arith) (λ e. omega arith) (λ e. omega arith) ∙ y)
      (chain_stays u next ys (omega arith) c)

  pub laid_more : Laid n m es area → Laid n m (es ++ (edge s t ∷ [])) after
  laid_more laid =
      record {
        few = omega (arith, length-append es (edge s t ∷ []));
        within = each_append _ es (edge s t ∷ []) laid.within (from, tt);
        low = λ u l. ⊎_elim (λ e. rw e (omega (arith, at_source, length-append es (edge s t ∷ [])))) (λ d. omega (arith, elsewhere u l d, laid.low u l, length-append es (edge s t ∷ []))) (equal_or u s);
        chains = λ u l. ⊎_elim (λ e. rw e own) (λ d. rw (elsewhere u l d, edges_other u s t es (λ e. d (sym e))) (chain_stays u (get_or area u 0) (edges_from u es) (laid.low u l) (laid.chains u l))) (equal_or u s);
        degrees = λ v l. ⊎_elim (λ e. rw e (omega (arith, at_degree, laid.degrees t onto, remaining_one t s t es, ap one (eq-eqb t t refl))))
            (λ d. omega (arith, other (n + v) (λ e. omega arith) (λ e. omega arith) (λ e. omega arith) (λ e. d (omega arith)), laid.degrees v l, remaining_one v s t es, ap one (ne_eqb t v (λ e. d (sym e)))))
            (equal_or v t);
        ranks = λ v l. other (2 * n + v) (λ e. omega arith) (λ e. omega arith) (λ e. omega arith) (λ e. omega arith) ∙ laid.ranks v l;
      }
    where
      elsewhere : (u : ℕ) → u < n → (u ≡ s → ⊥) → get_or after u 0 ≡ get_or area u 0
      elsewhere u l d = other u (λ e. omega arith) (λ e. omega arith) d (λ e. omega arith)

      own : Chain n m after s (get_or after s 0) (edges_from s (es ++ (edge s t ∷ [])))
      own =
          rw (at_source, edges_own s t es)
          (link i t (get_or area s 0) room onto (laid.low s from) at_target at_next
          (chain_stays s (get_or area s 0) (edges_from s es) (laid.low s from) (laid.chains s from)))
