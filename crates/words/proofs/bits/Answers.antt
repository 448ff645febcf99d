use native.Mathlib.Omega.{arith}
use Rattle.words.proofs.Rest.{rest_none, rest_less, rest_first}
use Rattle.words.proofs.bits.Goals as goal

pub returns-then-x-eq0 : goal.returns-then-x-eq0
returns-then-x-eq0 c = rest_none 64 _ _ _ _ c.loop.invariant c.if-x-eq0.true

pub loop-preserved : goal.loop-preserved
loop-preserved c = rest_less 64 _ _ _ _ c.loop.invariant c.if-x-eq0.false c.loop-test.true

pub returns : goal.returns
returns c = rest_first 64 _ _ _ _ c.loop.invariant (omega arith)
