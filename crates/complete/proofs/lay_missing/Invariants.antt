use Rattle.complete.specs.Loops.{Lacks}
use Rattle.kept_laws.specs.Given.{sized}
use Rattle.kept.specs.Tables.{Tables}
use lib.ListN.{length}
use mathlib.Core.Path.{◌≡◌}
use Prim.Native.Nat.{◌-◌}
use Rattle.complete.proofs.lay_missing.Given as goal

abbrev pub invariant-loop-a : goal.invariant-loop-a
invariant-loop-a l = (length l.kept ≡ length l.initial.kept) × ((T : Tables) → Lacks (sized l.counts T) l.initial.kept l.a l.kept)

abbrev pub decreases-loop-a : goal.decreases-loop-a
decreases-loop-a l = l.counts.atoms - l.a
