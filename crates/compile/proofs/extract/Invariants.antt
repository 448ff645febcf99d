use mathlib.Core.Path.{◌≡◌}
use Prim.Native.Nat.{◌-◌, ◌≤◌}
use lib.ListN.{length}
use Rattle.base.specs.Front.{front}
use Rattle.compile.specs.Producers.{producers_before, producer_words}
use Rattle.compile.proofs.extract.Given as goal

abbrev pub invariant-loop-i : goal.invariant-loop-i
invariant-loop-i l = (l.i ≤ l.n) × (l.n ≡ l.counts.roots) × (l.made ≤ l.i) × (length l.table ≡ length l.initial.table) × (l.made ≡ length (producers_before l.nodes l.operands l.classes l.roots l.i)) × (l.table ≡ front (producer_words (producers_before l.nodes l.operands l.classes l.roots l.i)) l.initial.table)

abbrev pub decreases-loop-i : goal.decreases-loop-i
decreases-loop-i l = l.n - l.i
