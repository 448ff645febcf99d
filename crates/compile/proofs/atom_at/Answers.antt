use mathlib.Core.Path.{sym, ◌∙◌}
use Rattle.compile.specs.ProducerLaws.{no_atom}
use Rattle.compile.proofs.atom_at.Goals as goal

pub returns-in-Atom : goal.returns-in-Atom
returns-in-Atom c = rw (sym c.view.ensures.value ∙ c.in-Atom.is)

pub returns-in_default : goal.returns-in_default
returns-in_default c = rw (sym c.view.ensures.value) (no_atom _ c.in_default.not-Atom)
