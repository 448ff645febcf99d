use Prim.Native.Nat.{◌-◌}
use native.Mathlib.Omega.{arith}
use Rattle.kept_laws.specs.Given.{sized}
use Rattle.retained.specs.SupportLaws.{missing_stays, missing_moves, deserted}
use Rattle.retained.proofs.deserted.Goals as goal

pub returns-then-before-ne1 : goal.returns-then-before-ne1
returns-then-before-ne1 c = let g = c.args in λ T. missing_stays (sized g.counts T) g.kept.now c.requires.2 g.a c.requires.1 g.before (g.before - 1) (λ z. omega (arith, c.requires.3, z)) (λ z. omega (arith, c.requires.3, c.if-before-ne1.true, z))

pub returns : goal.returns
returns c = let g = c.args in λ T. missing_moves (sized g.counts T) g.kept.now c.requires.2 g.a c.requires.1 g.before (g.before - 1) c.present-lacking.result _ _ (rw c.if-before-ne1.false) (deserted _ _ _ c.if-before-ne1.false c.present-lacking.ensures) (c.missing.ensures T)
