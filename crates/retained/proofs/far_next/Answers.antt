use native.Mathlib.Omega.{arith}
use borrow.Author.Tests.{eq-eqb, ne_eqb}
use lib.ListN.{get_or}
use Rattle.retained.proofs.far_next.Goals as goal

pub returns-then-kept : goal.returns-then-kept
returns-then-kept c = rw (ne_eqb (get_or c.args.kept.now 4 0) (get_or c.args.kept.now 7 0) (λ e. omega (arith, c.if-kept.true, e)))

pub returns : goal.returns
returns c = rw (eq-eqb (get_or c.args.kept.now 4 0) (get_or c.args.kept.now 7 0) (omega (arith, c.if-kept.false)), c.word.ensures.value)
