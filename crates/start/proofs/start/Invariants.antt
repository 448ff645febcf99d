use Prim.Native.Nat.{◌-◌}
use mathlib.Core.Path.{◌≡◌}
use lib.ListN.{length}
use Rattle.kept.specs.Tables.{Tables}
use Rattle.kept_laws.specs.Given.{listed}
use Rattle.start.specs.StartLaws.{Starting}
use Rattle.start.proofs.start.Given as goal

abbrev pub invariant-loop-j : goal.invariant-loop-j
invariant-loop-j l = ((T : Tables) → Starting (listed l.counts l.readers T) l.candidate l.initial.kept l.kept l.j) × (length l.kept ≡ length l.initial.kept)

abbrev pub decreases-loop-j : goal.decreases-loop-j
decreases-loop-j l = l.end - l.j
