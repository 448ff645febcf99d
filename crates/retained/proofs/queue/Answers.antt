use native.Mathlib.Omega.{arith}
use mathlib.Core.Path.{ap, ◌∙◌}
use lib.ListN.{length, length-set}
use Rattle.kept_laws.specs.Given.{sized}
use Rattle.retained.specs.QueueLaws.{queue_same, queue_only, queue_astray, queue_before, queue_after}
use borrow.Author.Rules.{rules}
use Rattle.retained.proofs.queue.Goals as goal
use Rattle.retained.proofs.queue.Goals.{then-m-first+else-m-first-2+else-first-counts, else-m-first}

pub returns-then-m-first-2 : goal.returns-then-m-first-2
returns-then-m-first-2 c = λ T. queue_same (sized c.args.counts T) c.args.kept.now c.requires.2 c.args.m (c.if-m-first-2.true ∙ c.word-first.ensures.value)

pub returns-then-first-counts-2 : goal.returns-then-first-counts-2
returns-then-first-counts-2 c = λ T. queue_only (sized c.args.counts T) c.args.kept.now c.requires.2 c.args.m _ c.word-first.ensures.value (omega (arith, c.if-m-first.true, c.if-m-first-2.false)) c.if-first-counts-2.true

pub returns-else-first-counts-2 : goal.returns-else-first-counts-2
returns-else-first-counts-2 c = λ T. queue_astray (sized c.args.counts T) c.args.kept.now c.requires.2 c.args.m _ c.word-first.ensures.value (omega (arith, c.if-m-first.true, c.if-m-first-2.false)) c.if-first-counts.true c.if-first-counts-2.false

pub put_behind-requires : goal.put_behind-requires
put_behind-requires c = (
  c.requires.0,
  elim c.if-m-first.branch [
    | then-m-first+else-m-first-2+else-first-counts w ↦ omega (arith, w.other-is, w.if-first-counts.false)
    | else-m-first w ↦ omega (arith, w.other-is, c.requires.1)
  ],
  elim c.if-m-first.branch [
    | then-m-first+else-m-first-2+else-first-counts w ↦ rw w.kept-is (search rules)
    | else-m-first w ↦ rw w.kept-is c.requires.2
  ],
)

pub shape_of-kept : goal.shape_of-kept
shape_of-kept c =
    c.put_behind.auto.kept
    ∙ (elim c.if-m-first.branch [
      | then-m-first+else-m-first-2+else-first-counts w ↦ ap length w.kept-is ∙ simp length-set
      | else-m-first w ↦ ap length w.kept-is
    ])

pub returns : goal.returns
returns c = λ T.
    elim c.if-m-first.branch [
      | then-m-first+else-m-first-2+else-first-counts w ↦ queue_before (sized c.args.counts T) c.args.kept.now c.requires.2 c.args.m _ c.word-first.ensures.value _ _ _ _ (c.put_behind.ensures T) (omega (arith, w.if-m-first.true, w.if-m-first-2.false)) w.if-first-counts.false w.kept-is w.other-is
      | else-m-first w ↦ queue_after (sized c.args.counts T) c.args.kept.now c.requires.2 c.args.m _ c.word-first.ensures.value _ _ _ _ (c.put_behind.ensures T) w.if-m-first.false w.kept-is w.other-is
    ]
