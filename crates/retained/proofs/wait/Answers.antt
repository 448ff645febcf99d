use Rattle.base.specs.Raised.{raised}
use Rattle.kept_laws.specs.Given.{sized}
use Rattle.kept_laws.specs.Within.{groups_within, word_within}
use Rattle.retained.specs.QueueLaws.{wait_done, wait_none}
use Rattle.retained.proofs.wait.Goals as goal

pub returns-in_err-include : goal.returns-in_err-include
returns-in_err-include c = λ T. rw (raised _ _ c.from_residual.ensures.1) (wait_none (sized c.args.counts T) c.args.kept.now c.requires.2 c.args.m c.requires.1 _ _ c.include.ensures c.in_err-include.was)

pub mark-requires : goal.mark-requires
mark-requires c = rw c.groups_at.ensures (groups_within c.args.counts _ (rw c.include.auto.kept c.requires.2) _ (word_within c.args.m _ c.requires.1))

pub returns : goal.returns
returns c = λ T. rw (c.mark.ensures, c.groups_at.ensures) (wait_done (sized c.args.counts T) c.args.kept.now c.requires.2 c.args.m c.requires.1 _ _ c.include.ensures c.in_ok-include.was)
