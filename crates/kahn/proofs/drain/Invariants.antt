use Prim.Native.Nat.{◌-◌}
use Rattle.kahn.proofs.Queue.{Emptying}
use Rattle.kahn.proofs.drain.Given as goal

abbrev pub invariant-loop-c : goal.invariant-loop-c
invariant-loop-c l = Emptying l.atoms l.n l.m l.queued l.c l.q l.initial.area l.area

abbrev pub decreases-loop-c : goal.decreases-loop-c
decreases-loop-c l = l.n - l.c
