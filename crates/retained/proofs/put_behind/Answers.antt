use Rattle.base.specs.Raised.{raised}
use native.Mathlib.Omega.{arith}
use lib.ListN.{length-set}
use Rattle.kept_laws.specs.Given.{sized}
use Rattle.kept_laws.specs.Within.{header_within}
use Rattle.retained.specs.QueueLaws.{put_behind_none, put_behind_same, put_behind_far, put_behind_done}
use Rattle.retained.proofs.put_behind.Goals as goal

pub returns-in_err-wait : goal.returns-in_err-wait
returns-in_err-wait c = λ T. rw (raised _ _ c.from_residual.ensures.1) (put_behind_none (sized c.args.counts T) c.args.kept.now c.requires.2 c.args.m c.args.other _ _ (c.wait.ensures T) c.in_err-wait.was)

pub returns-then-other-m : goal.returns-then-other-m
returns-then-other-m c = λ T. put_behind_same (sized c.args.counts T) c.args.kept.now c.requires.2 c.args.m c.args.other _ _ (c.wait.ensures T) c.in_ok-wait.was c.if-other-m.true

pub returns-then-word-other : goal.returns-then-word-other
returns-then-word-other c = λ T. put_behind_far (sized c.args.counts T) c.args.kept.now c.requires.2 c.args.m c.args.other _ _ (c.wait.ensures T) c.in_ok-wait.was c.if-other-m.false (omega (arith, c.if-word-other.true, c.word.ensures.value))

pub bounds-kept-4 : goal.bounds-kept-4
bounds-kept-4 c = simp length-set (rw c.wait.auto.kept (header_within c.args.counts _ c.requires.2 4 (omega arith)))

pub bounds-kept-7 : goal.bounds-kept-7
bounds-kept-7 c = simp length-set (rw c.wait.auto.kept (header_within c.args.counts _ c.requires.2 7 (omega arith)))

pub returns : goal.returns
returns c = λ T. put_behind_done (sized c.args.counts T) c.args.kept.now c.requires.2 c.args.m c.args.other _ _ (c.wait.ensures T) c.in_ok-wait.was c.if-other-m.false (omega (arith, c.if-word-other.false, c.word.ensures.value))
