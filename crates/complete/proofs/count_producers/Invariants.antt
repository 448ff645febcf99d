use Rattle.complete.specs.Loops.{Supports}
use Rattle.kept_laws.specs.Given.{produced}
use Rattle.kept.specs.Tables.{Tables}
use lib.ListN.{length}
use Prim.Native.Nat.{◌≤◌}
use mathlib.Core.Path.{◌≡◌}
use Rattle.complete.proofs.count_producers.Given as goal

abbrev pub invariant-loop-p : goal.invariant-loop-p
invariant-loop-p l = (l.p ≤ l.made) × (length l.kept ≡ length l.initial.kept) × ((T : Tables) → Supports (produced l.counts l.made l.producers T) l.initial.kept l.p l.kept)
