use mathlib.Core.Path.{sym, ◌∙◌}
use Rattle.compile.specs.ProducerLaws.{rule_none, rule_some}
use Rattle.compile.proofs.produce_rule.Goals as goal

pub returns-in-Some : goal.returns-in-Some
returns-in-Some c = c.with_body.ensures ∙ rule_some _ _ _ _ _ (sym c.head_of.ensures ∙ c.in-Some.is)

pub returns-in-None : goal.returns-in-None
returns-in-None c = rule_none _ _ _ _ (sym c.head_of.ensures ∙ c.in-None.is)
