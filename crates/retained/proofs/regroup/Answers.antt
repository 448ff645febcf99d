use borrow.Author.Tests.{eq-eqb, ne_eqb}
use Rattle.retained.specs.Groups.{regrouped}
use Rattle.retained.proofs.regroup.Goals as goal

pub returns-then-rest-eq0 : goal.returns-then-rest-eq0
unfolding regrouped
returns-then-rest-eq0 c = rw (eq-eqb c.args.rest 0 c.if-rest-eq0.true, ← c.groups_at.ensures) c.mark.ensures

pub returns-else-rest-eq0 : goal.returns-else-rest-eq0
unfolding regrouped
returns-else-rest-eq0 c = rw (ne_eqb c.args.rest 0 c.if-rest-eq0.false)
