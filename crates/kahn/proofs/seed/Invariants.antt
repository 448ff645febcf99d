use Rattle.kahn.specs.Seeding.{Seeding}
use Rattle.kahn.proofs.seed.Given as goal

abbrev pub invariant-loop-v : goal.invariant-loop-v
invariant-loop-v l = Seeding l.n l.v l.q l.initial.area l.area
