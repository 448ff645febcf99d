use mathlib.Core.Path.{sym, ◌∙◌}
use native.Mathlib.Omega.{arith}
use Rattle.theory.specs.Formed.{left_below, right_below}
use Rattle.compile.specs.Producer.{produced, produced_by}
use Rattle.compile.specs.ProducerLaws.{as_fact}
use Rattle.compile.proofs.produce.Goals as goal

pub is_false-requires : goal.is_false-requires
is_false-requires c = omega (arith, c.requires.2.nodes_long, c.requires.0, right_below _ _ _ c.requires.2 _ c.requires.0 _ _ (sym c.view.ensures.value ∙ c.in-Implies.is))

pub returns-then-is_false : goal.returns-then-is_false
unfolding produced produced_by
returns-then-is_false c = simp (sym c.view.ensures.value ∙ c.in-Implies.is, sym c.is_false.ensures ∙ c.if-is_false.true)

pub produce_rule-requires : goal.produce_rule-requires
produce_rule-requires c = (omega (arith, c.requires.0, c.requires.1, left_below _ _ _ c.requires.2 _ c.requires.0 _ _ (sym c.view.ensures.value ∙ c.in-Implies.is)), omega (arith, c.requires.0, right_below _ _ _ c.requires.2 _ c.requires.0 _ _ (sym c.view.ensures.value ∙ c.in-Implies.is)), c.requires.2)

pub returns-in-False : goal.returns-in-False
unfolding produced produced_by
returns-in-False c = simp (sym c.view.ensures.value ∙ c.in-False.is)

pub returns-else-is_false : goal.returns-else-is_false
unfolding produced produced_by
returns-else-is_false c = simp (sym c.view.ensures.value ∙ c.in-Implies.is, sym c.is_false.ensures ∙ c.if-is_false.false) c.produce_rule.ensures

pub returns-in_default : goal.returns-in_default
unfolding produced
returns-in_default c = c.produce_fact.ensures ∙ as_fact _ _ _ _ _ (λ e. c.in_default.not-False (c.view.ensures.value ∙ e)) (λ l r e. c.in_default.not-Implies l r (c.view.ensures.value ∙ e))
