use mathlib.Core.Path.{sym, ◌∙◌}
use Rattle.compile.specs.ProducerLaws.{order_first, order_second, order_none}
use Rattle.compile.proofs.choice_head.Goals as goal

pub returns-in-Some : goal.returns-in-Some
returns-in-Some c = order_first _ _ _ (sym c.choice_of-first.ensures ∙ c.in-Some.is)

pub returns-in-Some-choice_of : goal.returns-in-Some-choice_of
returns-in-Some-choice_of c = order_second _ _ _ (sym c.choice_of-first.ensures ∙ c.in_default.is) (sym c.choice_of.ensures ∙ c.in-Some-choice_of.is)

pub returns-in-None : goal.returns-in-None
returns-in-None c = order_none _ _ (sym c.choice_of-first.ensures ∙ c.in_default.is) (sym c.choice_of.ensures ∙ c.in-None.is)
