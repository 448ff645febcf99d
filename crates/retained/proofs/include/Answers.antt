use native.Mathlib.Omega.{arith}
use Rattle.retained.specs.MemberLaws.{include_stays, include_full, include_done}
use Rattle.retained.proofs.include.Goals as goal

pub returns-then-word-i-eq1 : goal.returns-then-word-i-eq1
returns-then-word-i-eq1 c = include_stays c.args.at c.args.i c.args.kept.now c.args.size c.args.most c.if-word-i-eq1.true

pub returns-then-n-most : goal.returns-then-n-most
returns-then-n-most c = include_full c.args.at c.args.i c.args.kept.now c.args.size c.args.most c.if-word-i-eq1.false (omega (arith, c.if-n-most.true, c.word-n.ensures.value))

pub returns : goal.returns
returns c = rw c.word-n.ensures.value (include_done c.args.at c.args.i c.args.kept.now c.args.size c.args.most c.if-word-i-eq1.false (omega (arith, c.if-n-most.false, c.word-n.ensures.value)))
