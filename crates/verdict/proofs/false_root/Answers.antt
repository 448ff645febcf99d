use borrow.Author.Tests.{lt-ltb, le-ltb}
use Rattle.verdict.proofs.false_root.Goals as goal

pub returns-then-root-counts : goal.returns-then-root-counts
returns-then-root-counts c = rw (lt-ltb _ _ c.if-root-counts.true)

pub returns-else-root-counts : goal.returns-else-root-counts
returns-else-root-counts c = rw (le-ltb _ _ c.if-root-counts.false)
