use Prim.Native.Nat.{◌-◌}
use lib.ListN.{length}
use Rattle.readers.specs.Joined.{joined}
use Rattle.readers.specs.Incidences.{root_items}
use Rattle.readers.specs.Pass.{passed_all}
use Rattle.readers.proofs.Left.{Left}
use Rattle.readers.proofs.pass_roots.Given as goal

abbrev pub invariant-loop-i : goal.invariant-loop-i
invariant-loop-i g l = let p = g.P.Pass in Left (λ x. p.room x.slot) (λ x. p.after x.slot x.entry) (joined (root_items l.roots) l.i (length l.roots - l.i)) l.table (passed_all p.after (joined (root_items l.roots) 0 (length l.roots)) l.initial.table)
