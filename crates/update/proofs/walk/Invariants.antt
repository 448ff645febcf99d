use Rattle.update.specs.WalkLaws.{Walking}
use Rattle.update.specs.Results.{lent}
use Rattle.kept.specs.Tables.{Tables}
use lib.ListN.{length, get_or}
use mathlib.Core.Path.{◌≡◌}
use Prim.Native.Nat.{◌+◌, ◌-◌, ◌≤◌}
use Rattle.update.proofs.walk.Given as goal

abbrev pub invariant-loop-kept : goal.invariant-loop-kept
invariant-loop-kept l = (l.n ≤ l.gone + get_or l.kept 5 0) × (length l.kept ≡ length l.initial.kept) × ((T : Tables) → Walking (lent l.counts l.made l.nodes l.operands l.roots l.producers l.readers T) l.gone l.initial.kept l.n l.kept)

abbrev pub decreases-loop-kept : goal.decreases-loop-kept
decreases-loop-kept l = l.counts.nodes + 1 - get_or l.kept 5 0
