use native.Mathlib.Omega.{arith}
use mathlib.Core.Path.{sym, ap, ◌∙◌}
use lib.ListN.{length}
use lib.Seq.{length-take-le}
use Rattle.ranks.specs.Highest.{part-rest}
use Rattle.dependency.specs.LayingLaws.{v_fits, lent, sized, has_room, few_degrees, laid-edge, tail_front, tail_back, tail_long}
use Rattle.dependency.proofs.lay_next.Goals as goal

pub slice_bounds-next_dependency-end-2 : goal.slice_bounds-next_dependency-end-2
slice_bounds-next_dependency-end-2 c = sym (length-take-le c.args.counts.nodes c.args.area.now (v_fits c.args.counts c.args.nodes.now c.args.operands.now c.args.roots.now c.args.v c.args.area.now c.requires.0))

pub next_dependency-requires : goal.next_dependency-requires
next_dependency-requires c = (lent c.args.counts c.args.nodes.now c.args.operands.now c.args.roots.now c.args.v c.args.area.now c.requires.0, c.requires.1.range)

pub lay-requires : goal.lay-requires
lay-requires c = (sized c.args.counts c.args.nodes.now c.args.operands.now c.args.roots.now c.args.v c.args.area.now c.requires.0, has_room c.args.counts c.args.nodes.now c.args.operands.now c.args.roots.now c.args.v c.args.area.now c.requires.0 c.args.l c.requires.1 _ _ _ (rw c.in-Some.is at c.in_ok-step.ensures), omega (arith, (rw c.in-Some.is at c.in_ok-step.ensures).1, c.requires.0.vertices), omega (arith, (rw c.in-Some.is at c.in_ok-step.ensures).2, c.requires.0.vertices), few_degrees c.args.counts c.args.nodes.now c.args.operands.now c.args.roots.now c.args.v c.args.area.now c.requires.0 c.args.l c.requires.1 _ _ _ (rw c.in-Some.is at c.in_ok-step.ensures))

pub overflow_add-result : goal.overflow_add-result
overflow_add-result c = omega (arith, has_room c.args.counts c.args.nodes.now c.args.operands.now c.args.roots.now c.args.v c.args.area.now c.requires.0 c.args.l c.requires.1 _ _ _ (rw c.in-Some.is at c.in_ok-step.ensures), c.requires.0.limited)

pub returns : goal.returns
returns c = laid-edge c.args.counts c.args.nodes.now c.args.operands.now c.args.roots.now c.args.v c.args.area.now c.requires.0 c.args.l c.requires.1 _ _ _ (rw c.in-Some.is at c.in_ok-step.ensures) _ c.lay.new.area (tail_long c.args.counts.nodes c.args.area.now c.lay.new.area (v_fits c.args.counts c.args.nodes.now c.args.operands.now c.args.roots.now c.args.v c.args.area.now c.requires.0) (c.lay.auto.area ∙ ap length (part-rest c.args.counts.nodes c.args.area.now))) (tail_front c.args.counts.nodes c.args.area.now c.lay.new.area (v_fits c.args.counts c.args.nodes.now c.args.operands.now c.args.roots.now c.args.v c.args.area.now c.requires.0)) (tail_back c.args.counts.nodes c.args.area.now c.lay.new.area (v_fits c.args.counts c.args.nodes.now c.args.operands.now c.args.roots.now c.args.v c.args.area.now c.requires.0)) c.lay.ensures
