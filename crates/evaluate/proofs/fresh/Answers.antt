use Rattle.base.specs.Raised.{raised}
use Rattle.words.specs.Sets.{member}
use Rattle.update.specs.Results.{lent}
use Rattle.evaluate.specs.ChecksLaws.{fresh_refused, fresh_done}
use Rattle.evaluate.proofs.fresh.Goals as goal

pub returns-in_err-complete : goal.returns-in_err-complete
returns-in_err-complete c = let a = c.args in
    λ T. rw (raised _ _ c.from_residual.ensures.1) (fresh_refused (lent a.counts a.made a.nodes.now a.operands.now a.roots.now a.producers.now a.readers.now T) (member 64 a.candidate.now) a.kept.now c.requires.0.kept_long _ _ (c.complete.ensures (lent a.counts a.made a.nodes.now a.operands.now a.roots.now a.producers.now a.readers.now T)) _ c.in_err-complete.was)

pub returns : goal.returns
returns c = let a = c.args in
    λ T. fresh_done (lent a.counts a.made a.nodes.now a.operands.now a.roots.now a.producers.now a.readers.now T) (member 64 a.candidate.now) a.kept.now c.requires.0.kept_long _ _ (c.complete.ensures (lent a.counts a.made a.nodes.now a.operands.now a.roots.now a.producers.now a.readers.now T)) c.in_ok-complete.was c.walk.result _ (c.walk.ensures (lent a.counts a.made a.nodes.now a.operands.now a.roots.now a.producers.now a.readers.now T))
