use Prim.Native.Nat.{◌+◌, ◌-◌, ◌*◌}
use mathlib.Core.Path.{◌≡◌}
use Rattle.record.specs.Number.{numbers}
use Rattle.file_reader.specs.Insert.{inserted_all}
use Rattle.file_reader.proofs.insert_all.Given as goal

abbrev pub invariant-loop-i : goal.invariant-loop-i
invariant-loop-i l = inserted_all l.initial.words (numbers l.file l.from l.count) ≡ inserted_all l.words (numbers l.file (l.from + 4 * l.i) (l.count - l.i))
