use native.Mathlib.Omega.{arith}
use Rattle.theory.proofs.span_end.Goals as goal

pub overflow_add-result : goal.overflow_add-result
overflow_add-result c = omega (arith, rw c.in-And.is at c.requires)

pub overflow_add-result-in-Or : goal.overflow_add-result-in-Or
overflow_add-result-in-Or c = omega (arith, rw c.in-Or.is at c.requires)

pub returns-in-And : goal.returns-in-And
returns-in-And c = rw c.in-And.is

pub returns-in-Or : goal.returns-in-Or
returns-in-Or c = rw c.in-Or.is
