use Rattle.complete.specs.Search.{lacks_in}
use Rattle.complete.proofs.lacks.Goals as goal

pub returns-then-present : goal.returns-then-present
unfolding lacks_in
returns-then-present c = rw (← c.present.ensures, c.if-present.true, c.support_at.ensures)

pub returns-else-present : goal.returns-else-present
unfolding lacks_in
returns-else-present c = rw (← c.present.ensures, c.if-present.false)
