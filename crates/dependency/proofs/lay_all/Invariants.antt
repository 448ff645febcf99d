use Rattle.dependency.specs.Cursor.{left}
use Rattle.dependency.specs.LayingLaws.{LayingAll}
use lib.ListN.{take}
use Rattle.dependency.proofs.lay_all.Given as goal

abbrev pub invariant-loop-next : goal.invariant-loop-next
invariant-loop-next l = LayingAll l.counts l.nodes l.operands l.roots l.v l.initial.area l.area l.l

abbrev pub decreases-loop-next : goal.decreases-loop-next
decreases-loop-next l = left l.counts l.nodes l.operands (take l.counts.nodes l.initial.area) l.roots l.l.cursor
