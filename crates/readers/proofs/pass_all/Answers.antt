use Rattle.readers.proofs.Left.{nodes_fit, producers_fit, roots_fit, all_passed}
use Rattle.readers.proofs.Steps.{roots_part}
use Rattle.readers.proofs.pass_all.Goals as goal

pub pass_nodes-requires : goal.pass_nodes-requires
pass_nodes-requires g c = (c.requires.0.limited, c.requires.0.tables, nodes_fit _ _ _ _ _ _ _ _ _ c.requires.1)

pub pass_producers-requires : goal.pass_producers-requires
pass_producers-requires g c = (c.requires.0.producers_long, producers_fit _ _ _ _ _ _ _ _ _ c.requires.1 _ c.pass_nodes.ensures)

pub pass_roots-requires : goal.pass_roots-requires
pass_roots-requires g c = rw (roots_part _ _ c.requires.0.roots_long) (roots_fit _ _ _ _ _ _ _ _ _ c.requires.1 _ c.pass_nodes.ensures _ c.pass_producers.ensures)

pub returns : goal.returns
returns g c = all_passed _ _ _ _ _ _ _ _ _ c.requires.1 _ c.pass_nodes.ensures _ c.pass_producers.ensures _ (rw (roots_part _ _ c.requires.0.roots_long) at c.pass_roots.ensures)
