use Rattle.complete.specs.Loops.{Truths}
use Rattle.complete.specs.Phases.{viewed}
use Rattle.kept.specs.Tables.{Tables}
use lib.ListN.{length}
use Prim.Native.Nat.{◌≤◌}
use mathlib.Core.Path.{◌≡◌}
use Rattle.complete.proofs.lay_truths.Given as goal

abbrev pub invariant-loop-k : goal.invariant-loop-k
invariant-loop-k l = (l.k ≤ l.counts.nodes) × (length l.kept ≡ length l.initial.kept) × ((T : Tables) → Truths (viewed l.counts l.nodes l.operands T) l.initial.kept l.k l.kept)
