use mathlib.Core.Path.{◌≡◌}
use Prim.Native.Nat.{◌*◌}
use Rattle.words.specs.Next.{next}
use Rattle.words.proofs.set.within.Given as goal

abbrev pub invariant-loop-q : goal.invariant-loop-q
invariant-loop-q g l = next g.W.Word.BITS (g.W.Word.numbers l.words) (g.W.Word.BITS * l.q) ≡ next g.W.Word.BITS (g.W.Word.numbers l.words) (g.W.Word.BITS * l.first)
