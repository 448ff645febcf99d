use Rattle.complete.specs.Loops.{truths_none, truths_next, truths_stop, truths_done}
use Rattle.complete.specs.Phases.{viewed}
use mathlib.Core.Path.{refl, ◌∙◌}
use native.Mathlib.Omega.{arith}
use borrow.Author.Rules.{rules}
use Rattle.complete.proofs.lay_truths.Goals as goal

pub loop-k-init : goal.loop-k-init
loop-k-init c = (search rules, refl, λ T. truths_none (viewed c.args.counts c.args.nodes.now c.args.operands.now T) c.args.kept.now c.requires.3)

pub lay_truth-requires : goal.lay_truth-requires
lay_truth-requires c = (c.requires.0, c.loop-k-test.true, c.requires.1, c.requires.2, omega (arith, c.loop-k.invariant.1, c.requires.3))

pub returns-in_default : goal.returns-in_default
returns-in_default c = λ T. truths_stop (viewed c.args.counts c.args.nodes.now c.args.operands.now T) c.args.kept.now c.requires.3 c.loop-k.k c.loop-k-test.true _ (c.loop-k.invariant.2 T) _ _ (c.lay_truth.ensures T) c.in_default.is _

pub loop-k-preserved : goal.loop-k-preserved
loop-k-preserved c = (search rules, c.lay_truth.auto.kept ∙ c.loop-k.invariant.1, λ T. truths_next (viewed c.args.counts c.args.nodes.now c.args.operands.now T) c.args.kept.now c.requires.3 c.loop-k.k c.loop-k-test.true _ (c.loop-k.invariant.2 T) _ _ (c.lay_truth.ensures T) c.in-Ok.is)

pub shape_of-kept : goal.shape_of-kept
shape_of-kept c = c.loop-k.invariant.1

pub returns : goal.returns
returns c = λ T. truths_done (viewed c.args.counts c.args.nodes.now c.args.operands.now T) c.args.kept.now c.requires.3 c.loop-k.k _ (c.loop-k.invariant.2 T) c.loop-k-test.false c.loop-k.invariant.0
