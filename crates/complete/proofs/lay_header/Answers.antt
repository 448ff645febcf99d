use native.Mathlib.Omega.{arith}
use lib.ListN.{length-set}
use Rattle.complete.specs.ResetLaws.{header-laid}
use Rattle.kept_laws.specs.Given.{sized}
use Rattle.complete.proofs.lay_header.Goals as goal

pub bounds-kept-1 : goal.bounds-kept-1
bounds-kept-1 c = simp length-set (omega arith)

pub bounds-kept-2 : goal.bounds-kept-2
bounds-kept-2 c = simp length-set (omega arith)

pub bounds-kept-3 : goal.bounds-kept-3
bounds-kept-3 c = simp length-set (omega arith)

pub bounds-kept-4 : goal.bounds-kept-4
bounds-kept-4 c = simp length-set (omega arith)

pub bounds-kept-5 : goal.bounds-kept-5
bounds-kept-5 c = simp length-set (omega arith)

pub bounds-kept-6 : goal.bounds-kept-6
bounds-kept-6 c = simp length-set (omega arith)

pub bounds-kept-7 : goal.bounds-kept-7
bounds-kept-7 c = simp length-set (omega arith)

pub returns : goal.returns
returns c = λ T. header-laid (sized c.args.counts T) c.args.kept.now c.requires.1
