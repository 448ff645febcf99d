use Rattle.complete.specs.Search.{next_from}
use Rattle.complete.specs.Loops.{lacks_none, lacks_next, lacks_done}
use Rattle.kept_laws.specs.Given.{sized}
use mathlib.Core.Path.{refl, ◌∙◌}
use Prim.Native.Nat.{◌+◌}
use native.Mathlib.Omega.{arith}
use Rattle.complete.proofs.lay_missing.Goals as goal

pub loop-a-init : goal.loop-a-init
loop-a-init c = (refl, λ T. lacks_none (sized c.args.counts T) c.args.kept.now c.requires.1 (c.requires.2 T) _ c.next_lacking-a.ensures)

pub loop-a-smaller : goal.loop-a-smaller
loop-a-smaller c = omega (arith, next_from c.args.counts c.missing.new.kept (c.loop-a.a + 1), c.next_lacking-a-in-loop-a.ensures, c.loop-a-test.true)

pub loop-a-preserved : goal.loop-a-preserved
loop-a-preserved c = (c.missing.auto.kept ∙ c.loop-a.invariant.0, λ T. lacks_next (sized c.args.counts T) c.args.kept.now c.requires.1 c.loop-a.a c.loop-a-test.true _ (c.loop-a.invariant.1 T) _ _ (c.missing.ensures T) (c.missing.auto.kept ∙ c.loop-a.invariant.0) _ c.next_lacking-a-in-loop-a.ensures)

pub shape_of-kept : goal.shape_of-kept
shape_of-kept c = c.loop-a.invariant.0

pub returns : goal.returns
returns c = λ T. lacks_done (sized c.args.counts T) c.args.kept.now c.requires.1 c.loop-a.a _ (c.loop-a.invariant.1 T) c.loop-a-test.false
