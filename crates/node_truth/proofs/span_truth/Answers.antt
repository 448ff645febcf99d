use borrow.Author.Tests.{le-leb, lt-leb}
use Rattle.node_truth.specs.InWords.{span_seen}
use Rattle.node_truth.proofs.span_truth.Goals as goal

pub returns-then-start-count : goal.returns-then-start-count
unfolding span_seen
returns-then-start-count c = rw (lt-leb _ _ c.if-start-count.true)

pub returns-then-count-eq2 : goal.returns-then-count-eq2
unfolding span_seen
returns-then-count-eq2 c = rw (le-leb _ _ c.if-start-count.false, c.if-count-eq2.true) c.pair_truth.ensures

pub returns-then-count-ge16 : goal.returns-then-count-ge16
unfolding span_seen
returns-then-count-ge16 c = rw (le-leb _ _ c.if-start-count.false) c.large_truth.ensures

pub returns : goal.returns
unfolding span_seen
returns c = rw (le-leb _ _ c.if-start-count.false) c.group_truth.ensures
