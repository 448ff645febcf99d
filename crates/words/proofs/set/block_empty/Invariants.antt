use Prim.Native.Nat.{◌+◌}
use Rattle.words.proofs.Blocks.{Gathered}
use Rattle.words.proofs.set.block_empty.Given as goal

abbrev pub invariant-loop-word : goal.invariant-loop-word
invariant-loop-word g l = Gathered (g.W.Word.numbers l.words) l.first (l.first + l.word-index) l.x
