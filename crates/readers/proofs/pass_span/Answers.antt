use Rattle.readers.proofs.Left.{element_turn, elements_done}
use Rattle.readers.proofs.pass_span.Goals as goal

pub enter-requires : goal.enter-requires
enter-requires g c = (element_turn _ _ _ _ _ _ c.loop-o.invariant c.loop-o-test.true).0

pub loop-o-preserved : goal.loop-o-preserved
loop-o-preserved g c = rw (c.enter.ensures, c.node.ensures) (element_turn _ _ _ _ _ _ c.loop-o.invariant c.loop-o-test.true).1

pub returns : goal.returns
returns g c = elements_done _ _ _ _ _ _ c.loop-o.invariant c.loop-o-test.false
