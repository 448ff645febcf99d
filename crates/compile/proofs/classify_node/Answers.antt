use mathlib.Core.Path.{sym, ◌∙◌}
use native.Mathlib.Omega.{arith}
use Rattle.theory.specs.Formed.{right_below, and_indexed, or_indexed}
use Rattle.compile.specs.ClassWord.{node_class_word}
use Rattle.compile.specs.Greatest.{greatest_of}
use borrow.Author.Rules.{rules}
use Rattle.compile.proofs.classify_node.Goals as goal

pub is_false-requires : goal.is_false-requires
is_false-requires c = omega (arith, c.requires.2.nodes_long, right_below _ _ _ c.requires.2 _ c.requires.0 _ _ (sym c.view.ensures.value ∙ c.in-Implies.is))

pub maximum_operand-requires : goal.maximum_operand-requires
maximum_operand-requires c = and_indexed _ _ _ c.requires.2 _ c.requires.0 _ _ _ (omega (arith, c.requires)) (sym c.view.ensures.value ∙ c.in-And.is)

pub maximum_operand-requires-in-Or : goal.maximum_operand-requires-in-Or
maximum_operand-requires-in-Or c = or_indexed _ _ _ c.requires.2 _ c.requires.0 _ _ _ (omega (arith, c.requires)) (sym c.view.ensures.value ∙ c.in-Or.is)

pub returns-in-Atom : goal.returns-in-Atom
unfolding node_class_word
returns-in-Atom c = record { value = rw (sym c.view.ensures.value ∙ c.in-Atom.is); upper_bound = search rules }

pub returns-in-False : goal.returns-in-False
unfolding node_class_word
returns-in-False c = record { value = rw (sym c.view.ensures.value ∙ c.in-False.is); upper_bound = search rules }

pub returns-then-is_false : goal.returns-then-is_false
unfolding node_class_word
returns-then-is_false c = record { value = rw (sym c.view.ensures.value ∙ c.in-Implies.is, sym c.is_false.ensures ∙ c.if-is_false.true); upper_bound = search rules }

pub returns-else-is_false : goal.returns-else-is_false
unfolding node_class_word
returns-else-is_false c = record { value = rw (sym c.view.ensures.value ∙ c.in-Implies.is, sym c.is_false.ensures ∙ c.if-is_false.false); upper_bound = search rules }

pub returns-in-And : goal.returns-in-And
unfolding node_class_word greatest_of
returns-in-And c = record { value = rw (sym c.view.ensures.value ∙ c.in-And.is) c.maximum_operand.ensures.value; upper_bound = c.maximum_operand.ensures.upper_bound }

pub returns-in-Or : goal.returns-in-Or
unfolding node_class_word greatest_of
returns-in-Or c = record { value = rw (sym c.view.ensures.value ∙ c.in-Or.is) c.maximum_operand-in-Or.ensures.value; upper_bound = c.maximum_operand-in-Or.ensures.upper_bound }

pub returns-in-Unknown : goal.returns-in-Unknown
unfolding node_class_word
returns-in-Unknown c = record { value = rw (sym c.view.ensures.value ∙ c.in-Unknown.is); upper_bound = search rules }
