-- Laid edges and a seeded queue start the removal.
-- Assumes nothing.
use Prim.Native.Nat.{ℕ, ◌+◌, ◌*◌, ◌≤◌, ◌<◌}
use native.Mathlib.Omega.{arith}
use mathlib.Core.Path.{◌≡◌, ap, sym, ◌∙◌}
use mathlib.Core.Bool.{Bool}
use mathlib.Core.List.{List}
use lib.Dec.{eqb}
use lib.ListN.{length, get_or}
use Rattle.base.specs.Places.{places}
use Rattle.graph.specs.Edge.{Edge, one}
use Rattle.graph.specs.Removing.{times}
use Rattle.graph.proofs.Kahn.{removing_starts}
use Rattle.kahn.specs.Area.{Sized, state_in, LinksKept}
use Rattle.kahn.specs.Laid.{Laid}
use Rattle.kahn.specs.Seeding.{Seeding}
use Rattle.kahn.specs.Draining.{Draining}
use Rattle.kahn.proofs.Sections.{part_long, degree_in, rank_in, state_queue, state_degrees, state_ranks}
use Rattle.kahn.proofs.Kept.{chains_kept}
use Rattle.graph.proofs.Times.{times_past, times_within}

pub seeding_kept : (n v q : ℕ) (before area : List ℕ) → Seeding n v q before area → LinksKept n before area
seeding_kept n v q before area s = record { long = s.long; first = λ k l. s.low k (omega arith); edges = s.high }

pub draining_starts : (A : ℕ) (es : List Edge) (n m q : ℕ) (before area : List ℕ) → Sized n m before → Laid n m es before → Seeding n n q before area
    → Draining A es n m 0 q area
draining_starts A es n m q before area sized laid s =
    record {
      fits = s.few;
      chains = chains_kept n m before area (seeding_kept n n q before area s) es laid.chains;
      removing =
          removing_starts A es n (state_in n q area)
          (degrees_long)
          (ranks_long)
          (λ v l. degree v l ∙ laid.degrees v l)
          (λ v l. rank_in n q area long s.few v l ∙ s.low (2 * n + v) (omega arith) ∙ laid.ranks v l)
          (λ v l. ap (times v) queue ∙ times_within p v n l ∙ ap (λ x. one (eqb x 0)) (sym (degree v l)))
          (λ v l. ap (times v) queue ∙ times_past p v n l);
    }
  where
    long : 4 * n ≤ length area
    long = omega (arith, s.long, sized.long)

    p : ℕ → Bool
    p u = eqb (get_or before (n + u) 0) 0

    degree : (v : ℕ) → v < n → get_or (state_in n q area).degrees v 0 ≡ get_or before (n + v) 0
    degree v l = degree_in n q area long s.few v l ∙ s.low (n + v) (omega arith)

    queue : (state_in n q area).queue ≡ places p 0 n
    queue = state_queue n q area ∙ s.queue

    degrees_long : length (state_in n q area).degrees ≡ n
    degrees_long = ap length (state_degrees n q area) ∙ part_long n n area (omega arith)

    ranks_long : length (state_in n q area).ranks ≡ n
    ranks_long = ap length (state_ranks n q area) ∙ part_long (2 * n) n area (omega arith)
