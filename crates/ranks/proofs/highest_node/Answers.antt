use borrow.Author.Tests.{eq-eqb, ne_eqb}
use mathlib.Core.Path.{sym, ◌∙◌}
use native.Mathlib.Omega.{arith}
use Rattle.theory.specs.Formed.{atom_below}
use Rattle.compile.specs.Greatest.{greatest_of}
use Rattle.ranks.specs.Kinds.{grouped, bare, grouped_indexed}
use Rattle.ranks.specs.Highest.{highest_by, highest_group, highest_bare}
use borrow.Author.Rules.{rules}
use Rattle.ranks.proofs.highest_node.Goals as goal

pub word-requires : goal.word-requires
word-requires c = omega (arith, c.requires.2, atom_below _ _ _ c.requires.3 _ c.requires.0 _ (sym c.view.ensures.value ∙ c.in-Atom.is))

pub maximum_operand-requires : goal.maximum_operand-requires
maximum_operand-requires c = grouped_indexed _ _ _ c.requires.3 _ c.requires.0 _ (omega (arith, c.requires.0, c.requires.1)) _ _ (grouped _ _ _ _ c.view.ensures.value c.in-And.is)

pub returns-in-Atom : goal.returns-in-Atom
unfolding highest_by
returns-in-Atom c = record { value = rw (sym c.view.ensures.value ∙ c.in-Atom.is) c.word.ensures.value; upper_bound = c.word.ensures.upper_bound }

pub returns-then-class-eq1 : goal.returns-then-class-eq1
unfolding greatest_of
returns-then-class-eq1 c = record { value = rw (highest_group _ _ _ _ _ _ _ (grouped _ _ _ _ c.view.ensures.value c.in-And.is), eq-eqb _ _ c.if-class-eq1.true) c.maximum_operand.ensures.value; upper_bound = c.maximum_operand.ensures.upper_bound }

pub returns-else-class-eq1 : goal.returns-else-class-eq1
returns-else-class-eq1 c = record { value = rw (highest_group _ _ _ _ _ _ _ (grouped _ _ _ _ c.view.ensures.value c.in-And.is), ne_eqb _ _ c.if-class-eq1.false); upper_bound = search rules }

pub returns-in-False : goal.returns-in-False
returns-in-False c = record { value = sym (highest_bare _ _ _ _ _ (bare _ _ c.view.ensures.value c.in-False.is)); upper_bound = search rules }
