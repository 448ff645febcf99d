use native.Mathlib.Omega.{arith}
use Rattle.kept_laws.specs.Given.{produced}
use Rattle.complete.specs.Branches.{head_stray, body_stray, producer_adds}
use Rattle.complete.proofs.count_producer.Goals as goal

pub returns-then-head-counts : goal.returns-then-head-counts
returns-then-head-counts c = let g = c.args in λ T. head_stray (produced g.counts T.made g.producers.now T) g.kept.now c.requires.2 g.p c.word-head.result c.word-body.result c.word-head.ensures.value c.word-body.ensures.value c.if-head-counts.true

pub returns-then-body-counts : goal.returns-then-body-counts
returns-then-body-counts c = let g = c.args in λ T. body_stray (produced g.counts T.made g.producers.now T) g.kept.now c.requires.2 g.p c.word-head.result c.word-body.result c.word-head.ensures.value c.word-body.ensures.value c.if-head-counts.false c.if-body-counts.true

pub overflow_add-kept : goal.overflow_add-kept
overflow_add-kept c = rw c.support_at.ensures (omega (arith, c.adds.ensures.1, c.requires.3 c.word-head.result c.if-head-counts.false, c.requires.0.roots))

pub returns : goal.returns
returns c = let g = c.args in λ T. rw c.support_at.ensures (producer_adds (produced g.counts T.made g.producers.now T) g.kept.now c.requires.2 g.p c.word-head.result c.word-body.result c.word-head.ensures.value c.word-body.ensures.value c.if-head-counts.false c.if-body-counts.false c.adds.result c.adds.ensures.0)
