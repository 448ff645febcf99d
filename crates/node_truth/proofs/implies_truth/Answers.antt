use Rattle.node_truth.specs.InWords.{implies_seen}
use borrow.Author.Tests.{lt-ltb, le-ltb}
use Rattle.node_truth.proofs.implies_truth.Goals as goal

pub returns-then-left-k : goal.returns-then-left-k
unfolding implies_seen
returns-then-left-k c = rw (le-ltb _ _ c.if-left-k.true)

pub returns-then-right-k : goal.returns-then-right-k
unfolding implies_seen
returns-then-right-k c = rw (lt-ltb _ _ c.if-left-k.false, le-ltb _ _ c.if-right-k.true)

pub returns-then-not-l : goal.returns-then-not-l
unfolding implies_seen
returns-then-not-l c = rw (lt-ltb _ _ c.if-left-k.false, lt-ltb _ _ c.if-right-k.false, ← c.holds-l.ensures, c.if-not-l.true)

pub returns-else-not-l : goal.returns-else-not-l
unfolding implies_seen
returns-else-not-l c = rw (lt-ltb _ _ c.if-left-k.false, lt-ltb _ _ c.if-right-k.false, ← c.holds-l.ensures, c.if-not-l.false, c.holds-r.ensures)
