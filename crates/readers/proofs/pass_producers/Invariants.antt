use Prim.Native.Nat.{◌-◌}
use Rattle.readers.specs.Joined.{joined}
use Rattle.readers.specs.Incidences.{producer_items}
use Rattle.readers.specs.Pass.{passed_all}
use Rattle.readers.proofs.Left.{Left}
use Rattle.readers.proofs.pass_producers.Given as goal

abbrev pub invariant-loop-i : goal.invariant-loop-i
invariant-loop-i g l = let p = g.P.Pass in Left (λ x. p.room x.slot) (λ x. p.after x.slot x.entry) (joined (producer_items l.producers) l.i (l.p - l.i)) l.table (passed_all p.after (joined (producer_items l.producers) 0 l.p) l.initial.table)
