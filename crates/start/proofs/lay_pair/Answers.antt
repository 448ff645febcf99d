use native.Mathlib.Omega.{arith}
use mathlib.Core.Path.{sym}
use lib.ListN.{length-set}
use Rattle.start.specs.LaidPair.{laid_two, laid_one}
use Rattle.start.proofs.lay_pair.Goals as goal

pub bounds-kept-at : goal.bounds-kept-at
bounds-kept-at c = rw c.candidate_at.ensures (omega (arith, c.requires.1, c.requires.2))

pub bounds-kept-at-then-counts-j : goal.bounds-kept-at-then-counts-j
bounds-kept-at-then-counts-j c = rw (length-set, c.candidate_at.ensures) (omega (arith, c.if-counts-j.true, c.requires.1, c.requires.2))

pub returns-then-counts-j : goal.returns-then-counts-j
returns-then-counts-j c = rw c.candidate_at.ensures (sym (laid_two _ _ _ _ c.if-counts-j.true))

pub returns-else-counts-j : goal.returns-else-counts-j
returns-else-counts-j c = rw c.candidate_at.ensures (sym (laid_one _ _ _ _ c.if-counts-j.false))
