use Prim.Native.Nat.{◌-◌}
use mathlib.Core.Path.{◌≡◌}
use lib.ListN.{length}
use Rattle.record.specs.Contents.{nothing}
use Rattle.record.specs.File.{theory_file, verdict, read_from}
use Rattle.record.specs.Bounds.{Within}
use Rattle.record.proofs.judge.Given as goal

abbrev pub invariant-loop-c : goal.invariant-loop-c
invariant-loop-c l = Within (length l.file) l.c × (verdict (theory_file l.file) ≡ verdict (read_from l.file l.c nothing (length l.file - l.c.records)))

abbrev pub decreases-loop-c : goal.decreases-loop-c
decreases-loop-c l = length l.file - l.c.at
