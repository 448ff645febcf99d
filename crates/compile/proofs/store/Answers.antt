use native.Mathlib.Omega.{arith}
use lib.ListN.{length-set}
use Rattle.compile.specs.ProducersLaws.{stored}
use Rattle.compile.proofs.store.Goals as goal

pub bounds-table-at-2 : goal.bounds-table-at-2
bounds-table-at-2 c = simp length-set (omega (arith, c.requires.0))

pub bounds-table-at-3 : goal.bounds-table-at-3
bounds-table-at-3 c = simp length-set (omega (arith, c.requires.0))

pub bounds-table-at-4 : goal.bounds-table-at-4
bounds-table-at-4 c = simp length-set (omega (arith, c.requires.0))

pub returns : goal.returns
unfolding stored
returns c = rw c.from.ensures
