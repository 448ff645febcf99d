use native.Mathlib.Omega.{arith}
use mathlib.Core.Path.{sym, ◌∙◌}
use Rattle.retained.specs.MemberLaws.{exclude_stays, exclude_none, exclude_done}
use Rattle.retained.proofs.exclude.Goals as goal

pub returns-then-word-i-ne1 : goal.returns-then-word-i-ne1
returns-then-word-i-ne1 c = exclude_stays c.args.at c.args.i c.args.kept.now c.args.size c.args.most c.if-word-i-ne1.true

pub returns-then-n-eq0 : goal.returns-then-n-eq0
returns-then-n-eq0 c = exclude_none c.args.at c.args.i c.args.kept.now c.args.size c.args.most c.if-word-i-ne1.false (sym c.word-n.ensures.value ∙ c.if-n-eq0.true)

pub returns : goal.returns
returns c = rw c.word-n.ensures.value (exclude_done c.args.at c.args.i c.args.kept.now c.args.size c.args.most c.if-word-i-ne1.false (omega (arith, c.if-n-eq0.false, c.word-n.ensures.value)))
