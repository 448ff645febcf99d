use Rattle.kept_laws.specs.Given.{sized}
use Rattle.retained.specs.QueueLaws.{next_far, next_here, next_beyond, dequeue_last, dequeue_astray, dequeue_next}
use Rattle.retained.proofs.dequeue.Goals as goal

pub returns-then-kept-eq0 : goal.returns-then-kept-eq0
returns-then-kept-eq0 c = λ T. dequeue_last (sized c.args.counts T) c.args.kept.now c.requires.2 _ c.if-kept-eq0.true (c.drain.ensures T)

pub returns-then-q-counts : goal.returns-then-q-counts
returns-then-q-counts c = λ T. dequeue_astray (sized c.args.counts T) c.args.kept.now c.requires.2 c.if-kept-eq0.false _ (next_far (sized c.args.counts T) c.args.kept.now c.requires.2 c.args.k c.requires.3 c.requires.1 _ c.far_next.ensures _ c.if-far_next.true c.word-q.ensures.value) c.if-q-counts.true

pub returns-then-far_next : goal.returns-then-far_next
returns-then-far_next c = λ T. dequeue_next (sized c.args.counts T) c.args.kept.now c.requires.2 c.if-kept-eq0.false _ (next_far (sized c.args.counts T) c.args.kept.now c.requires.2 c.args.k c.requires.3 c.requires.1 _ c.far_next.ensures _ c.if-far_next.true c.word-q.ensures.value) _ _ (c.advance.ensures T)

pub returns-then-kept-counts-ne0 : goal.returns-then-kept-counts-ne0
returns-then-kept-counts-ne0 c = λ T. dequeue_next (sized c.args.counts T) c.args.kept.now c.requires.2 c.if-kept-eq0.false _ (next_here (sized c.args.counts T) c.args.kept.now c.requires.2 c.args.k c.requires.3 c.requires.1 _ c.far_next.ensures c.if-far_next.false c.if-kept-counts-ne0.true) _ _ (c.advance-then-kept-counts-ne0.ensures T)

pub returns-then-q-counts-2 : goal.returns-then-q-counts-2
returns-then-q-counts-2 c = λ T. dequeue_astray (sized c.args.counts T) c.args.kept.now c.requires.2 c.if-kept-eq0.false _ (next_beyond (sized c.args.counts T) c.args.kept.now c.requires.2 c.args.k c.requires.3 c.requires.1 _ c.far_next.ensures _ c.if-far_next.false c.if-kept-counts-ne0.false (c.next_group-q.ensures T)) c.if-q-counts-2.true

pub returns : goal.returns
returns c = λ T. dequeue_next (sized c.args.counts T) c.args.kept.now c.requires.2 c.if-kept-eq0.false _ (next_beyond (sized c.args.counts T) c.args.kept.now c.requires.2 c.args.k c.requires.3 c.requires.1 _ c.far_next.ensures _ c.if-far_next.false c.if-kept-counts-ne0.false (c.next_group-q.ensures T)) _ _ (c.advance-2.ensures T)
