use Rattle.node_truth.specs.InWords.{atom_seen}
use borrow.Author.Tests.{lt-ltb, le-ltb}
use Rattle.node_truth.proofs.atom_truth.Goals as goal

pub returns-then-a-counts : goal.returns-then-a-counts
unfolding atom_seen
returns-then-a-counts c = rw (le-ltb _ _ c.if-a-counts.true)

pub returns : goal.returns
unfolding atom_seen
returns c = rw (lt-ltb _ _ c.if-a-counts.false, ← c.present.ensures)
