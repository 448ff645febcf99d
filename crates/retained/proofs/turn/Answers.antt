use Rattle.retained.proofs.turn.Goals as goal

pub returns-then-x : goal.returns-then-x
returns-then-x c = rw c.if-x.true c.include.ensures

pub returns-else-x : goal.returns-else-x
returns-else-x c = rw c.if-x.false c.exclude.ensures
