use Prim.Native.Nat.{◌-◌}
use Rattle.readers.specs.Joined.{joined}
use Rattle.readers.specs.Incidences.{items_at}
use Rattle.readers.specs.Pass.{passed_all}
use Rattle.readers.proofs.Left.{Left}
use Rattle.readers.proofs.pass_nodes.Given as goal

abbrev pub invariant-loop-k : goal.invariant-loop-k
invariant-loop-k g l = let p = g.P.Pass in Left (λ x. p.room x.slot) (λ x. p.after x.slot x.entry) (joined (items_at l.counts l.nodes l.operands) l.k (l.counts.nodes - l.k)) l.table (passed_all p.after (joined (items_at l.counts l.nodes l.operands) 0 l.counts.nodes) l.initial.table)
