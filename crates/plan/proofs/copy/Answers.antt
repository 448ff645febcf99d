use borrow.Author.Rules.{rules}
use native.Mathlib.Omega.{arith}
use mathlib.Core.Path.{refl}
use lib.ListN.{length-set}
use Rattle.base.specs.Front.{front_none}
use Rattle.plan.specs.Filled.{copied_more}
use Rattle.plan.proofs.copy.Goals as goal

pub loop-i-init : goal.loop-i-init
loop-i-init c = (search rules, front_none _)

pub loop-i-preserved : goal.loop-i-preserved
loop-i-preserved c = (simp length-set c.loop-i.invariant.0, copied_more _ _ _ _ _ (omega (arith, c.requires)) (omega (arith, c.requires)) refl c.loop-i.invariant.1)
