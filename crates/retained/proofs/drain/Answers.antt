use native.Mathlib.Omega.{arith}
use lib.ListN.{length-set}
use Rattle.kept_laws.specs.Given.{sized}
use Rattle.kept_laws.specs.Within.{header_within}
use Rattle.retained.specs.QueueLaws.{drain_none, drain_far}
use Rattle.retained.proofs.drain.Goals as goal

pub bounds-kept-7 : goal.bounds-kept-7
bounds-kept-7 c = simp length-set (header_within c.args.counts _ c.requires.1 7 (omega arith))

pub returns-then-kept-eq0 : goal.returns-then-kept-eq0
returns-then-kept-eq0 c = λ T. drain_none (sized c.args.counts T) c.args.kept.now c.requires.1 (omega (arith, c.if-kept-eq0.true))

pub bounds-kept-6 : goal.bounds-kept-6
bounds-kept-6 c = simp length-set (header_within c.args.counts _ c.requires.1 6 (omega arith))

pub bounds-kept-7-2 : goal.bounds-kept-7-2
bounds-kept-7-2 c = simp length-set (header_within c.args.counts _ c.requires.1 7 (omega arith))

pub returns : goal.returns
returns c = λ T. drain_far (sized c.args.counts T) c.args.kept.now c.requires.1 (λ e. omega (arith, c.if-kept-eq0.false, e))
