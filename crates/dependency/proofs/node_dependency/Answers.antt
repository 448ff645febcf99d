use native.Mathlib.Omega.{arith}
use mathlib.Core.Path.{refl, sym, ◌∙◌}
use Rattle.theory.specs.Formed.{atom_below}
use Rattle.ranks.specs.Kinds.{grouped, bare}
use Rattle.dependency.specs.CursorLaws.{next_atom, next_bare}
use Rattle.dependency.proofs.node_dependency.Goals as goal

pub operand_dependency-requires : goal.operand_dependency-requires
operand_dependency-requires c = (c.requires.0, c.requires.1, c.requires.2, grouped _ _ _ _ c.view.ensures.value c.in-And.is)

pub returns-in-Atom : goal.returns-in-Atom
returns-in-Atom c = (next_atom c.args.counts c.args.nodes.now c.args.operands.now c.args.classes.now c.args.roots.now c.args.c c.requires.2 _ c.requires.0 (sym c.view.ensures.value ∙ c.in-Atom.is), omega (arith, atom_below _ _ _ c.requires.1.tables _ c.requires.0 _ (sym c.view.ensures.value ∙ c.in-Atom.is)), omega (arith, c.requires.0))

pub returns-in-False : goal.returns-in-False
returns-in-False c = next_bare c.args.counts c.args.nodes.now c.args.operands.now c.args.classes.now c.args.roots.now c.args.c c.requires.2 _ c.requires.0 refl (bare _ _ c.view.ensures.value c.in-False.is)
