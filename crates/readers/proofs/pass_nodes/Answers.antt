use Rattle.readers.proofs.Left.{number_fits, number_next, numbers_done}
use Rattle.readers.proofs.pass_nodes.Goals as goal

pub pass_node-requires : goal.pass_node-requires
pass_node-requires g c = (c.loop-k-test.true, c.requires.0, c.requires.1, number_fits _ _ _ _ _ _ _ c.loop-k.invariant c.loop-k-test.true)

pub loop-k-preserved : goal.loop-k-preserved
loop-k-preserved g c = number_next _ _ _ _ _ _ _ c.loop-k.invariant c.loop-k-test.true _ c.pass_node.ensures

pub returns : goal.returns
returns g c = numbers_done _ _ _ _ _ _ _ c.loop-k.invariant c.loop-k-test.false
