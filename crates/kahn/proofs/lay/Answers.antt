use native.Mathlib.Omega.{arith}
use mathlib.Core.Path.{refl}
use lib.ListN.{length-set}
use Rattle.kahn.proofs.Laying.{laid_words}
use Rattle.kahn.proofs.lay.Goals as goal

pub bounds-area-n-2 : goal.bounds-area-n-2
bounds-area-n-2 c = simp length-set (omega (arith, c.requires))

pub bounds-area-source-2 : goal.bounds-area-source-2
bounds-area-source-2 c = simp length-set (omega (arith, c.requires))

pub bounds-area-n-3 : goal.bounds-area-n-3
bounds-area-n-3 c = simp length-set (omega (arith, c.requires))

pub returns : goal.returns
returns c = laid_words _ _ _ _ _ _ _ _ refl c.word-degree.ensures.value
