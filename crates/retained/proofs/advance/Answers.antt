use Prim.Native.Nat.{◌+◌}
use native.Mathlib.Omega.{arith}
use lib.Count.{trailing_le}
use lib.ListN.{get_or, length-set}
use Rattle.kept_laws.specs.Given.{bare, sized}
use Rattle.kept_laws.specs.Within.{header_within}
use Rattle.retained.specs.QueueLaws.{advance_empty, advance_low, count_stays, advance_done}
use Rattle.retained.proofs.advance.Goals as goal

pub returns-then-x-eq0 : goal.returns-then-x-eq0
returns-then-x-eq0 c = λ T. advance_empty (sized c.args.counts T) c.args.kept.now c.requires.2 c.args.q c.requires.1 c.if-x-eq0.true

pub overflow_cast-m : goal.overflow_cast-m
overflow_cast-m c = omega (arith, trailing_le 32 (get_or c.args.kept.now (8 + c.args.counts.nodes + c.args.q) 0))

pub overflow_add-m : goal.overflow_add-m
overflow_add-m c = omega (arith, trailing_le 32 (get_or c.args.kept.now (8 + c.args.counts.nodes + c.args.q) 0), c.requires.0.nodes, c.requires.1)

pub returns-then-m-k : goal.returns-then-m-k
returns-then-m-k c = λ T. advance_low (sized c.args.counts T) c.args.kept.now c.requires.2 c.args.q c.requires.1 c.if-x-eq0.false (c.slice_known-1.given (8 + c.args.counts.nodes + c.args.q)).fits (omega (arith, c.if-m-k.true, c.requires.3))

pub bounds-kept-4 : goal.bounds-kept-4
bounds-kept-4 c = rw c.regroup.auto.kept (simp length-set (header_within c.args.counts _ c.requires.2 4 (omega arith)))

pub overflow_sub-kept : goal.overflow_sub-kept
overflow_sub-kept c = rw c.regroup.ensures (rw (count_stays (bare c.args.counts) c.args.kept.now c.requires.2 c.args.q c.requires.1 c.if-x-eq0.false (c.slice_known-1.given (8 + c.args.counts.nodes + c.args.q)).fits) c.requires.4)

pub bounds-kept-4-2 : goal.bounds-kept-4-2
bounds-kept-4-2 c = rw c.regroup.auto.kept (simp length-set (header_within c.args.counts _ c.requires.2 4 (omega arith)))

pub overflow_cast-kept : goal.overflow_cast-kept
overflow_cast-kept c = omega (arith, trailing_le 32 (get_or c.args.kept.now (8 + c.args.counts.nodes + c.args.q) 0), c.requires.0.nodes, c.requires.1)

pub bounds-kept-5 : goal.bounds-kept-5
bounds-kept-5 c = simp length-set (rw c.regroup.auto.kept (simp length-set (header_within c.args.counts _ c.requires.2 5 (omega arith))))

pub shape_of-kept : goal.shape_of-kept
shape_of-kept c = simp length-set (simp length-set at c.regroup.auto.kept)

pub returns : goal.returns
returns c = λ T. rw c.regroup.ensures (advance_done (sized c.args.counts T) c.args.kept.now c.requires.2 c.args.q c.requires.1 c.if-x-eq0.false (c.slice_known-1.given (8 + c.args.counts.nodes + c.args.q)).fits (omega (arith, c.if-m-k.false, c.requires.3)))
