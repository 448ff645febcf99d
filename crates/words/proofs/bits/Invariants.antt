use Rattle.words.proofs.Rest.{Rest}
use Rattle.words.proofs.bits.Given as goal

abbrev pub invariant-loop : goal.invariant-loop
invariant-loop l = Rest 64 l.word l.i l.x l.counter
