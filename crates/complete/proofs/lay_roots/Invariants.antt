use Rattle.complete.specs.Loops.{Fails}
use Rattle.kept_laws.specs.Given.{rooted}
use Rattle.kept.specs.Tables.{Tables}
use lib.ListN.{length}
use Prim.Native.Nat.{◌≤◌}
use mathlib.Core.Path.{◌≡◌}
use Rattle.complete.proofs.lay_roots.Given as goal

abbrev pub invariant-loop-p : goal.invariant-loop-p
invariant-loop-p l = (l.p ≤ l.counts.roots) × (length l.kept ≡ length l.initial.kept) × ((T : Tables) → Fails (rooted l.counts l.roots T) l.initial.kept l.p l.kept)
