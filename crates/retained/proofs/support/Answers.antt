use Rattle.kept_laws.specs.Given.{supplied}
use Rattle.retained.proofs.support.Goals as goal

pub returns-then-holds : goal.returns-then-holds
returns-then-holds c = λ T. rw c.if-holds.true (c.gain.ensures T)

pub returns-else-holds : goal.returns-else-holds
returns-else-holds c = λ T. rw c.if-holds.false (c.lose.ensures (supplied c.args.counts c.args.made T))
