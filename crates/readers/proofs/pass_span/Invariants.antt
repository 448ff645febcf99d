use lib.ListN.{drop}
use Rattle.readers.specs.Pass.{passed}
use Rattle.readers.specs.Reader.{node_reader}
use Rattle.readers.proofs.Left.{Left}
use Rattle.readers.proofs.pass_span.Given as goal

abbrev pub invariant-loop-o : goal.invariant-loop-o
invariant-loop-o g l = let p = g.P.Pass in Left p.room (λ o. p.after o (node_reader l.k)) (drop l.o-index l.span) l.table (passed (λ o. p.after o (node_reader l.k)) l.span l.initial.table)
