use Prim.Native.Nat.{◌+◌, ◌-◌, ◌*◌}
use mathlib.Core.Path.{◌≡◌}
use Rattle.record.specs.Number.{numbers}
use Rattle.record.specs.Rising.{rising_from, rising}
use Rattle.record.proofs.is_rising.Given as goal

abbrev pub invariant-loop-i : goal.invariant-loop-i
invariant-loop-i l = rising (numbers l.file l.start l.count) ≡ rising_from l.last (numbers l.file (l.start + 4 * l.i) (l.count - l.i))
