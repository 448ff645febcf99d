use Prim.Native.Nat.{◌-◌}
use mathlib.Core.Path.{◌≡◌}
use lib.ListN.{length}
use Rattle.record.specs.Bounds.{Within}
use Rattle.record.specs.Contents.{nothing}
use Rattle.record.specs.File.{read_from, start, verdict}
use Rattle.load.specs.Tables.{tables}
use Rattle.load.specs.Store.{stored_from}
use Rattle.load.specs.Room.{Fits}
use Rattle.load.proofs.store_all.Given as goal

abbrev pub invariant-loop-c : goal.invariant-loop-c
invariant-loop-c l = Within (length l.file) l.c × Fits (verdict (read_from l.file l.c nothing (length l.file - l.c.records))) (length l.initial.nodes) (length l.initial.operands) (length l.initial.roots) × (stored_from l.file start (tables l.initial.nodes l.initial.operands l.initial.roots) (length l.file) ≡ stored_from l.file l.c (tables l.nodes l.operands l.roots) (length l.file - l.c.records))

abbrev pub decreases-loop-c : goal.decreases-loop-c
decreases-loop-c l = length l.file - l.c.at
