use Rattle.base.specs.Raised.{raised}
use native.Mathlib.Omega.{arith}
use mathlib.Core.Path.{refl, ◌∙◌}
use Rattle.kept_laws.specs.Given.{sized}
use Rattle.start.specs.EnterLaws.{entering_first, entering_done, entering_out, entering_full, entering_more}
use Rattle.start.proofs.enter_all.Goals as goal

pub loop-word-init : goal.loop-word-init
loop-word-init c = (λ T. entering_first (sized c.args.counts T) c.args.kept.now c.args.list.now c.requires.1, refl)

pub returns-then-m-counts : goal.returns-then-m-counts
returns-then-m-counts c = λ T. entering_out (sized c.args.counts T) c.args.kept.now c.args.list.now c.requires.1 _ _ (c.loop-word.invariant.0 T) c.loop-word-test.true _ refl c.if-m-counts.true

pub returns-in_err-queue : goal.returns-in_err-queue
returns-in_err-queue c = λ T. rw (raised _ _ c.from_residual.ensures.1) (entering_full (sized c.args.counts T) c.args.kept.now c.args.list.now c.requires.1 _ _ (c.loop-word.invariant.0 T) c.loop-word-test.true _ refl c.if-m-counts.false _ _ (c.queue.ensures T) c.in_err-queue.was)

pub loop-word-preserved : goal.loop-word-preserved
loop-word-preserved c = (λ T. entering_more (sized c.args.counts T) c.args.kept.now c.args.list.now c.requires.1 _ _ (c.loop-word.invariant.0 T) c.loop-word-test.true _ refl c.if-m-counts.false _ _ (c.queue.ensures T) c.in_ok-queue.was, c.queue.auto.kept ∙ c.loop-word.invariant.1)

pub returns : goal.returns
returns c = λ T. entering_done (sized c.args.counts T) c.args.kept.now c.args.list.now c.requires.1 _ c.loop-word.word-index (c.loop-word.invariant.0 T) (omega (arith, c.loop-word.auto.word-index-end, c.loop-word-test.false))
