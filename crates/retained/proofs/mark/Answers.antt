use Rattle.retained.specs.MemberLaws.{mark_in, mark_out}
use Rattle.retained.proofs.mark.Goals as goal

pub returns-then-x : goal.returns-then-x
returns-then-x c = rw c.if-x.true (mark_in c.args.at c.args.i c.args.kept.now)

pub returns-else-x : goal.returns-else-x
returns-else-x c = rw c.if-x.false (mark_out c.args.at c.args.i c.args.kept.now)
