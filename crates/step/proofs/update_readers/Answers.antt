use Rattle.base.specs.Raised.{raised}
use Rattle.step.specs.TurnLaws.{telling_none, telling_done, telling_stop, telling_more}
use Rattle.kept_laws.specs.Given.{produced}
use borrow.Author.Rules.{rules}
use Rattle.step.proofs.update_readers.Goals as goal

pub loop-word-init : goal.loop-word-init
loop-word-init c = (search rules, λ T. telling_none (produced c.args.counts c.args.made c.args.producers.now T) c.args.kept.now c.requires.3 c.args.k c.args.holds c.args.list.now)

pub returns-in_err-update_reader : goal.returns-in_err-update_reader
returns-in_err-update_reader c = λ T. rw (raised _ _ c.from_residual.ensures.1) (telling_stop (produced c.args.counts c.args.made c.args.producers.now T) c.args.kept.now c.requires.3 c.args.k c.args.holds c.args.list.now c.loop-word.kept c.loop-word.word-index (c.loop-word.invariant.1 T) c.loop-word-test.true _ _ (c.update_reader.ensures T) c.in_err-update_reader.was)

pub loop-word-preserved : goal.loop-word-preserved
loop-word-preserved c = (search rules, λ T. telling_more (produced c.args.counts c.args.made c.args.producers.now T) c.args.kept.now c.requires.3 c.args.k c.args.holds c.args.list.now c.loop-word.kept c.loop-word.word-index (c.loop-word.invariant.1 T) c.loop-word-test.true _ _ (c.update_reader.ensures T) c.in_ok-update_reader.was)

pub returns : goal.returns
returns c = λ T. telling_done (produced c.args.counts c.args.made c.args.producers.now T) c.args.kept.now c.requires.3 c.args.k c.args.holds c.args.list.now c.loop-word.kept c.loop-word.word-index (c.loop-word.invariant.1 T) c.loop-word-test.false
