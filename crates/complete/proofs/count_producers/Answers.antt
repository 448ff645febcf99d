use Rattle.base.specs.Raised.{raised}
use Rattle.complete.specs.Loops.{supports_none, supports_next, supports_stop, supports_done}
use Rattle.complete.specs.SupportLaws.{supplied-most}
use Rattle.kept.specs.LayoutLaws.{fits_of}
use Rattle.kept.specs.Layout.{of_words}
use Rattle.kept_laws.specs.Given.{bare, produced}
use mathlib.Core.Path.{refl, ◌∙◌}
use native.Mathlib.Omega.{arith}
use borrow.Author.Rules.{rules}
use Rattle.complete.proofs.count_producers.Goals as goal

pub loop-p-init : goal.loop-p-init
loop-p-init c = (search rules, refl, λ T. supports_none (produced c.args.counts c.args.made c.args.producers.now T) c.args.kept.now c.requires.3 (c.requires.4 (produced c.args.counts c.args.made c.args.producers.now T)))

pub count_producer-requires : goal.count_producer-requires
count_producer-requires c = (c.requires.0, omega (arith, c.loop-p-test.true, c.requires.1, c.requires.2), omega (arith, c.loop-p.invariant.1, c.requires.3), λ a l. omega (arith, supplied-most (produced c.args.counts c.args.made c.args.producers.now (bare c.args.counts)) c.args.kept.now c.requires.3 (of_words (produced c.args.counts c.args.made c.args.producers.now (bare c.args.counts)) c.args.kept.now) (fits_of (produced c.args.counts c.args.made c.args.producers.now (bare c.args.counts)) c.args.kept.now c.requires.3) c.loop-p.p c.loop-p.kept (c.loop-p.invariant.2 (bare c.args.counts)).holds a l, c.loop-p-test.true, c.requires.1))

pub returns-in_err-count_producer : goal.returns-in_err-count_producer
returns-in_err-count_producer c = λ T. rw (raised _ _ c.from_residual.ensures.1) (supports_stop (produced c.args.counts c.args.made c.args.producers.now T) c.args.kept.now c.requires.3 c.loop-p.p c.loop-p-test.true _ (c.loop-p.invariant.2 T) _ _ (c.count_producer.ensures (produced c.args.counts c.args.made c.args.producers.now T)) c.in_err-count_producer.was _)

pub loop-p-preserved : goal.loop-p-preserved
loop-p-preserved c = (search rules, c.count_producer.auto.kept ∙ c.loop-p.invariant.1, λ T. supports_next (produced c.args.counts c.args.made c.args.producers.now T) c.args.kept.now c.requires.3 c.loop-p.p c.loop-p-test.true _ (c.loop-p.invariant.2 T) _ _ (c.count_producer.ensures (produced c.args.counts c.args.made c.args.producers.now T)) c.in_ok-count_producer.was)

pub shape_of-kept : goal.shape_of-kept
shape_of-kept c = c.loop-p.invariant.1

pub returns : goal.returns
returns c = λ T. supports_done (produced c.args.counts c.args.made c.args.producers.now T) c.args.kept.now c.requires.3 c.loop-p.p _ (c.loop-p.invariant.2 T) c.loop-p-test.false c.loop-p.invariant.0
