use native.Mathlib.Omega.{arith}
use mathlib.Core.Path.{◌∙◌}
use Rattle.readers.specs.Incidences.{item}
use Rattle.readers.specs.Reader.{node_reader}
use Rattle.readers.proofs.Left.{room_one, room_first, room_second, pass_none, pass_one, pass_two, fits_map, passed-map}
use Rattle.readers.proofs.Steps.{atom_items, implies_items, group_items, no_items}
use Rattle.readers.proofs.pass_node.Goals as goal

pub enter-requires : goal.enter-requires
enter-requires g c = room_one _ _ _ _ _ (atom_items _ _ _ _ _ c.view.ensures.value _ c.in-Atom.is) c.requires.3

pub enter-requires-in-Implies : goal.enter-requires-in-Implies
enter-requires-in-Implies g c = room_first _ _ _ _ _ _ (implies_items _ _ _ _ _ c.view.ensures.value _ _ c.in-Implies.is) c.requires.3

pub enter-requires-in-Implies-2 : goal.enter-requires-in-Implies-2
enter-requires-in-Implies-2 g c = room_second _ _ _ _ _ _ (implies_items _ _ _ _ _ c.view.ensures.value _ _ c.in-Implies.is) c.requires.3 _ (rw c.node.ensures at c.enter-in-Implies.ensures)

pub pass_span-requires : goal.pass_span-requires
pass_span-requires g c = (omega (arith, c.requires.0, c.requires.1.nodes), fits_map (λ o. item o (node_reader c.args.k)) _ _ _ _ (rw (group_items _ _ _ _ _ c.view.ensures.value _ _ c.in-And.is) at c.requires.3))

pub returns-in-Atom : goal.returns-in-Atom
returns-in-Atom g c = c.enter.ensures ∙ pass_one _ _ _ _ (atom_items _ _ _ _ _ c.view.ensures.value _ c.in-Atom.is)

pub returns-in-Implies : goal.returns-in-Implies
returns-in-Implies g c = c.enter-in-Implies-2.ensures ∙ rw (c.enter-in-Implies.ensures, c.node.ensures, c.node-in-Implies.ensures) (pass_two _ _ _ _ _ (implies_items _ _ _ _ _ c.view.ensures.value _ _ c.in-Implies.is))

pub returns-in-False : goal.returns-in-False
returns-in-False g c = pass_none _ _ _ (no_items _ _ _ _ _ c.view.ensures.value c.in-False.is)

pub returns-in-And : goal.returns-in-And
returns-in-And g c = rw (group_items _ _ _ _ _ c.view.ensures.value _ _ c.in-And.is) (c.pass_span.ensures ∙ passed-map (λ o. item o (node_reader c.args.k)) _ _ _)
