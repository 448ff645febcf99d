use Prim.Native.Nat.{◌+◌}
use mathlib.Core.Path.{◌≡◌}
use lib.ListN.{length, take}
use Rattle.text.specs.Clip.{Put}
use Rattle.text.proofs.put_text.Given as goal

abbrev pub invariant-loop-byte : goal.invariant-loop-byte
invariant-loop-byte l = (l.end ≡ l.at + l.byte-index) × (length l.out ≡ length l.initial.out) × Put l.initial.out l.at (take l.byte-index l.text) l.end l.out
