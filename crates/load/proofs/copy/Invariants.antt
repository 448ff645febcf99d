use mathlib.Core.Path.{◌≡◌}
use lib.Seq.{paste}
use Rattle.record.specs.Number.{numbers}
use Rattle.load.proofs.copy.Given as goal

abbrev pub invariant-loop-i : goal.invariant-loop-i
invariant-loop-i l = l.table ≡ paste l.initial.table l.at (numbers l.file l.from l.count) l.i
