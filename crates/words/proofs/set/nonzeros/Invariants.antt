use Rattle.words.proofs.Blocks.{Marked}
use Rattle.words.proofs.set.nonzeros.Given as goal

abbrev pub invariant-loop-k : goal.invariant-loop-k
invariant-loop-k g l = Marked (g.W.Word.numbers l.words) l.first l.k l.x
