use Rattle.compile.specs.ProducerLaws.{bodied}
use borrow.Author.Tests.{eq-eqb, ne_eqb}
use Rattle.compile.proofs.with_body.Goals as goal

pub returns-then-word-eq2 : goal.returns-then-word-eq2
unfolding bodied
returns-then-word-eq2 c = simp (← c.word.ensures.value, eq-eqb _ _ c.if-word-eq2.true)

pub returns : goal.returns
unfolding bodied
returns c = simp (← c.word.ensures.value, ne_eqb _ _ c.if-word-eq2.false)
