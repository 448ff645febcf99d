-- The loop over the queue, and the answer at its end.
-- Assumes nothing.
use Prim.Native.Nat.{ℕ, ◌+◌, ◌*◌, ◌≤◌}
use native.Mathlib.Omega.{arith}
use mathlib.Core.Path.{◌≡◌, ap, sym, ◌∙◌}
use mathlib.Core.Bool.{not}
use mathlib.Core.List.{List}
use lib.Dec.{eqb}
use lib.ListN.{length, get_or, take, drop}
use lib.Seq.{take-take}
use Rattle.std.specs.Prelude.{position, Some, None}
use Rattle.base.specs.Places.{lowest, lowest_agree}
use Rattle.graph.specs.Edge.{Edge}
use Rattle.graph.specs.Derive.{ranks, cycle, derive}
use Rattle.graph.specs.Removing.{Ended}
use Rattle.graph.proofs.KahnEnd.{ended, read_cycle, read_ranks}
use Rattle.kahn.specs.Area.{Sized, part, state_in, LinksKept}
use Rattle.kahn.specs.Laid.{Laid}
use Rattle.kahn.specs.Seeding.{Seeding}
use Rattle.kahn.specs.Draining.{Draining}
use Rattle.kahn.proofs.Sections.{queue_long, degree_in, state_ranks}
use Rattle.kahn.proofs.Kept.{kept_none, kept_more}
use Rattle.kahn.proofs.Left.{left_some, left_none}
use Rattle.kahn.proofs.Start.{seeding_kept, draining_starts}

-- what the loop over the queue keeps, from the area before it
pub record Emptying (A n m queued c q : ℕ) (before area : List ℕ) : Type 0 where
  pub kept : LinksKept n before area
  pub drains : (es : List Edge) → Draining A es n m 0 queued before → Draining A es n m c q area

pub emptying_starts : (A n m q : ℕ) (area : List ℕ) → Emptying A n m q 0 q area area
emptying_starts A n m q area = record { kept = kept_none n area; drains = λ es d. d }

module _ (A n m queued c q : ℕ) (before area : List ℕ) (e : Emptying A n m queued c q before area) where
  pub emptying_more : (r : ℕ) (after : List ℕ) → ((es : List Edge) → Draining A es n m c q area → Draining A es n m (c + 1) r after) × LinksKept n area after
      → Emptying A n m queued (c + 1) r before after
  emptying_more r after is = record { kept = kept_more n before area after e.kept is.1; drains = λ es d. is.0 es (e.drains es d) }

  pub emptying_ends : Sized n m before → q ≤ c → ((es : List Edge) → Draining A es n m 0 queued before → Draining A es n m q q area) × LinksKept n before area
  emptying_ends sized l = (λ es d. go es (e.drains es d), e.kept)
    where
      go : (es : List Edge) → Draining A es n m c q area → Draining A es n m q q area
      go es x =
          let all : c ≡ q = omega (arith, x.removing.reached, queue_long n q area (omega (arith, sized.long, e.kept.long)) x.fits) in
          rw all at x

module _ (A n m seeded q : ℕ) (before area after : List ℕ) (sized : Sized n m before) (few : A ≤ n) (seed : Seeding n n seeded before area)
    (drain : ((es : List Edge) → Draining A es n m 0 seeded area → Draining A es n m q q after) × LinksKept n area after) where
  kept : LinksKept n before after
  kept = kept_more n before area after (seeding_kept n n seeded before area seed) drain.1

  long : 4 * n ≤ length after
  long = omega (arith, sized.long, kept.long)

  module _ (es : List Edge) (laid : Laid n m es before) where
    end : Draining A es n m q q after
    end = drain.0 es (draining_starts A es n m seeded before area sized laid seed)

    at-end : Ended A es n (state_in n q after)
    at-end = ended A es n laid.within (state_in n q after) (rw (queue_long n q after long end.fits) end.removing)

    same : (a : ℕ) → a ≡ lowest (λ v. not (eqb (get_or after (n + v) 0) 0)) 0 A → a ≡ lowest (λ v. not (eqb (get_or (state_in n q after).degrees v 0) 0)) 0 A
    same a low = low ∙ lowest_agree _ _ 0 A (λ v b c. ap (λ x. not (eqb x 0)) (sym (degree_in n q after long end.fits v (omega arith))))

  pub derived_cycle : (a : ℕ) → position (λ d. not (eqb d 0)) (part n A after) ≡ Some a
      → ((es : List Edge) → Laid n m es before → cycle a ≡ derive A n es) × LinksKept n before after
  derived_cycle a e =
      let l = left_some n A after (omega (arith, long)) a e in
      (λ es laid. read_cycle A es n few (state_in n q after) (at-end es laid) a (same es laid a l.1) l.0, kept)

  pub derived_ranks_lem : position (λ d. not (eqb d 0)) (part n A after) ≡ None
      → ((es : List Edge) → Laid n m es before → ranks (part (2 * n) A after) ≡ derive A n es) × LinksKept n before after
  derived_ranks_lem e = (
    λ es laid.
        ap ranks (sym (take-take A n (drop (2 * n) after) few) ∙ ap (take A) (sym (state_ranks n q after)))
        ∙ read_ranks A es n few (state_in n q after) (at-end es laid) A (same es laid A (left_none n A after (omega (arith, long)) e)) (omega arith),
    kept,
  )
