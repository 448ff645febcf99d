use native.Mathlib.Omega.{arith}
use lib.ListN.{length-set}
use borrow.Author.Rules.{rules}
use Rattle.kahn.proofs.Steps.{relaxed}
use Rattle.kahn.proofs.relax.Goals as goal

pub bounds-area-n-2 : goal.bounds-area-n-2
bounds-area-n-2 c = simp length-set (omega (arith, c.requires.n_bound, c.requires.nonzero))

pub push-requires : goal.push-requires
push-requires c = simp length-set (omega (arith, c.requires.n_bound, c.requires.nonzero))

pub shape_of-area : goal.shape_of-area
shape_of-area c = simp length-set at c.push.auto.area

pub returns : goal.returns
returns c = let r = relaxed _ _ _ _ _ _ (search rules) (search rules) (search rules) (search rules) _ _ _ _ _ _ _ c.word-degree.ensures.value c.word-before.ensures.value c.word.ensures.value c.cost.ensures.0 c.max-rank.ensures c.push.ensures in record { area_after = r.0; links_kept = r.1 }
