use Rattle.words.specs.Halves.{half}
use Rattle.kept_laws.specs.Filling.{filled}
use lib.ListN.{length}
use Prim.Native.Nat.{◌≤◌}
use mathlib.Core.Path.{◌≡◌}
use Rattle.complete.proofs.lay_halves.Given as goal

abbrev pub invariant-loop-i : goal.invariant-loop-i
invariant-loop-i l = (l.i ≤ length l.initial.part) × (length l.part ≡ length l.initial.part) × (l.part ≡ filled l.i (half l.candidate) l.initial.part)
