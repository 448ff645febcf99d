use Prim.Native.Nat.{◌+◌, ◌*◌, ◌≤◌}
use mathlib.Core.Path.{◌≡◌}
use lib.ListN.{length, take}
use Rattle.text.specs.Clip.{Put}
use Rattle.text.specs.Lines.{spaced}
use Rattle.text.proofs.put_words.Given as goal

abbrev pub invariant-loop-word : goal.invariant-loop-word
invariant-loop-word l = (l.end ≤ l.at + 21 * l.word-index) × (length l.out ≡ length l.initial.out) × Put l.initial.out l.at (spaced (take l.word-index l.words)) l.end l.out
