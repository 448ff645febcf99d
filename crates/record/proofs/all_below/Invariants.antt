use Prim.Native.Nat.{◌+◌, ◌-◌, ◌*◌}
use mathlib.Core.Path.{◌≡◌}
use Rattle.theory.specs.Admission.{all_below}
use Rattle.record.specs.Number.{numbers}
use Rattle.record.proofs.all_below.Given as goal

abbrev pub invariant-loop-i : goal.invariant-loop-i
invariant-loop-i l = all_below l.bound (numbers l.file l.start l.count) ≡ all_below l.bound (numbers l.file (l.start + 4 * l.i) (l.count - l.i))
