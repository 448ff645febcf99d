use Prim.Native.Nat.{◌+◌}
use native.Mathlib.Omega.{arith}
use mathlib.Core.Bool.{false}
use Rattle.kept_laws.specs.Given.{sized}
use Rattle.node_truth.specs.InWords.{present_in}
use Rattle.retained.specs.SupportLaws.{missing_stays, missing_moves, gained}
use Rattle.retained.proofs.relieved.Goals as goal

pub returns-then-before-ne0 : goal.returns-then-before-ne0
returns-then-before-ne0 c = let g = c.args in λ T. missing_stays (sized g.counts T) g.kept.now c.requires.2 g.a c.requires.1 g.before (g.before + 1) c.if-before-ne0.true (λ z. omega (arith, z))

pub returns : goal.returns
returns c = let g = c.args in λ T. missing_moves (sized g.counts T) g.kept.now c.requires.2 g.a c.requires.1 g.before (g.before + 1) false _ _ (rw c.if-before-ne0.false) (gained (present_in g.counts g.kept.now g.a) g.before) (c.missing.ensures T)
