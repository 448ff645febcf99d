use Rattle.base.specs.Raised.{raised}
use Rattle.kept_laws.specs.Given.{told}
use Rattle.step.specs.TakeLaws.{take_stuck, take_done, take_fault}
use Rattle.step.proofs.take.Goals as goal

pub returns-in_err-dequeue : goal.returns-in_err-dequeue
returns-in_err-dequeue c = let g = c.args in λ T. rw (raised _ _ c.from_residual.ensures.1) (take_stuck (told g.counts g.made g.producers.now g.readers.now T) g.k g.kept.now c.requires.4 g.holds _ _ (c.dequeue.ensures (told g.counts g.made g.producers.now g.readers.now T)) c.in_err-dequeue.was)

pub returns-in-Ok : goal.returns-in-Ok
returns-in-Ok c = let g = c.args in λ T. take_done (told g.counts g.made g.producers.now g.readers.now T) g.k g.kept.now c.requires.4 g.holds _ _ (c.dequeue.ensures (told g.counts g.made g.producers.now g.readers.now T)) c.in_ok-dequeue.was _ _ (c.settle.ensures T) c.in-Ok.is

pub returns-in-Err : goal.returns-in-Err
returns-in-Err c = let g = c.args in λ T. take_fault (told g.counts g.made g.producers.now g.readers.now T) g.k g.kept.now c.requires.4 g.holds _ _ (c.dequeue.ensures (told g.counts g.made g.producers.now g.readers.now T)) c.in_ok-dequeue.was _ _ (c.settle.ensures T) c.in-Err.is
