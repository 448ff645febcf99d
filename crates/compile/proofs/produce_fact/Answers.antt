use mathlib.Core.Path.{sym, ◌∙◌}
use Rattle.compile.specs.ProducerLaws.{fact-none, fact_some}
use Rattle.compile.proofs.produce_fact.Goals as goal

pub returns-in-Some : goal.returns-in-Some
returns-in-Some c = fact_some _ _ _ (sym c.head_of.ensures ∙ c.in-Some.is)

pub returns-in-None : goal.returns-in-None
returns-in-None c = fact-none _ _ (sym c.head_of.ensures ∙ c.in-None.is)
