use mathlib.Core.Path.{◌≡◌}
use Prim.Native.Nat.{◌+◌, ◌*◌}
use Rattle.words.specs.Next.{next}
use Rattle.words.proofs.set.next_far.Given as goal

abbrev pub invariant-loop-k : goal.invariant-loop-k
invariant-loop-k g l = next g.W.Word.BITS (g.W.Word.numbers l.words) (g.W.Word.BITS * (l.first + 32 * l.k)) ≡ next g.W.Word.BITS (g.W.Word.numbers l.words) (g.W.Word.BITS * l.first)
