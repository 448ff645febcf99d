use Rattle.kahn.proofs.Walk.{Spreading}
use Rattle.kahn.proofs.spread.Given as goal

abbrev pub invariant-loop-link : goal.invariant-loop-link
invariant-loop-link l = Spreading l.atoms l.n l.m l.c l.queued l.source l.link l.q l.initial.area l.area

abbrev pub decreases-loop-link : goal.decreases-loop-link
decreases-loop-link l = l.link
