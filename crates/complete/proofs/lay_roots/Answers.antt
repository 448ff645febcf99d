use Rattle.base.specs.Raised.{raised}
use Rattle.complete.specs.Loops.{fails_none, fails_next, fails_stop, fails_done}
use Rattle.kept_laws.specs.Given.{rooted}
use mathlib.Core.Path.{refl, ◌∙◌}
use native.Mathlib.Omega.{arith}
use borrow.Author.Rules.{rules}
use Rattle.complete.proofs.lay_roots.Goals as goal

pub loop-p-init : goal.loop-p-init
loop-p-init c = (search rules, refl, λ T. fails_none (rooted c.args.counts c.args.roots.now T) c.args.kept.now c.requires.2 (c.requires.3 (rooted c.args.counts c.args.roots.now T)))

pub lay_root-requires : goal.lay_root-requires
lay_root-requires c = (c.requires.0, c.loop-p-test.true, c.requires.1, omega (arith, c.loop-p.invariant.1, c.requires.2))

pub returns-in_err-lay_root : goal.returns-in_err-lay_root
returns-in_err-lay_root c = λ T. rw (raised _ _ c.from_residual.ensures.1) (fails_stop (rooted c.args.counts c.args.roots.now T) c.args.kept.now c.requires.2 c.loop-p.p c.loop-p-test.true _ (c.loop-p.invariant.2 T) _ _ (c.lay_root.ensures T) c.in_err-lay_root.was _)

pub loop-p-preserved : goal.loop-p-preserved
loop-p-preserved c = (search rules, c.lay_root.auto.kept ∙ c.loop-p.invariant.1, λ T. fails_next (rooted c.args.counts c.args.roots.now T) c.args.kept.now c.requires.2 c.loop-p.p c.loop-p-test.true _ (c.loop-p.invariant.2 T) _ _ (c.lay_root.ensures T) c.in_ok-lay_root.was)

pub shape_of-kept : goal.shape_of-kept
shape_of-kept c = c.loop-p.invariant.1

pub returns : goal.returns
returns c = λ T. fails_done (rooted c.args.counts c.args.roots.now T) c.args.kept.now c.requires.2 c.loop-p.p _ (c.loop-p.invariant.2 T) c.loop-p-test.false c.loop-p.invariant.0
