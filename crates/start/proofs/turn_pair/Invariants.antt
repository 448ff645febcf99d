use Prim.Native.Nat.{ℕ, ◌<◌, ◌+◌, ◌*◌, ◌^◌}
use mathlib.Core.Path.{◌≡◌}
use mathlib.Core.Bool.{true}
use lib.ListN.{length}
use Rattle.base.specs.Places.{places}
use Rattle.formula.specs.Satisfaction.{Interpretation}
use Rattle.words.specs.Bit.{bit}
use Rattle.kept.specs.Tables.{Tables}
use Rattle.kept_laws.specs.Given.{listed}
use Rattle.start.specs.WordLaws.{Turning}
use Rattle.start.proofs.turn_pair.Given as goal

abbrev pub invariant-loop-counts : goal.invariant-loop-counts
invariant-loop-counts l = ((T : Tables) (J : Interpretation) → ((k : ℕ) → k < 64 → J (l.j * 64 + k) ≡ bit l.new k) → Turning (listed l.counts l.readers T) J 64 l.initial.kept l.j l.initial.x l.kept l.x)
    × ((k : ℕ) → k < 64 → bit l.x k ≡ true → l.j * 64 + k < l.counts.atoms) × (length l.kept ≡ length l.initial.kept) × (l.x < 2 ^ 64)

abbrev pub decreases-loop-counts : goal.decreases-loop-counts
decreases-loop-counts l = length (places (bit l.x) 0 64)
