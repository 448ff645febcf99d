use Rattle.readers.proofs.Placement.{Summing}
use Rattle.readers.proofs.sum.Given as goal

abbrev pub invariant-loop-word : goal.invariant-loop-word
invariant-loop-word l = Summing l.fn.table l.n l.word-index l.start l.word-items
