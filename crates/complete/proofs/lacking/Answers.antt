use Rattle.complete.specs.Search.{word_empty, word-lacks}
use Rattle.complete.proofs.lacking.Goals as goal

pub returns-then-x-eq0 : goal.returns-then-x-eq0
returns-then-x-eq0 c = let g = c.args in λ k h. word_empty g.counts g.kept.now g.q k h (rw c.support_at-support.ensures at c.if-x-eq0.true)

pub returns : goal.returns
returns c = let g = c.args in λ k h. rw c.support_at-support.ensures (word-lacks g.counts g.kept.now g.q k h _ (rw c.support_at-support.ensures at (c.nonzeros-supported.ensures k h)))
