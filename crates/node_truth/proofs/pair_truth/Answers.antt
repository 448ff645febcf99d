use native.Mathlib.Omega.{arith}
use mathlib.Core.Bool.{true, false}
use Rattle.node_truth.specs.InWords.{true_in}
use Rattle.node_truth.specs.Turns.{group_pair}
use Rattle.node_truth.proofs.pair_truth.Goals as goal

pub returns-then-decisive : goal.returns-then-decisive
returns-then-decisive c = rw (c.if-decisive.true, c.holds-x.ensures, c.holds-y.ensures) (group_pair c.args.operands.now c.args.k (true_in c.args.kept.now) true c.args.start _ _ c.word-a.ensures.value c.word-b.ensures.value (omega (arith, c.requires)) (omega (arith, c.if-max-k.false, c.max.ensures)) (omega (arith, c.if-max-k.false, c.max.ensures)))

pub returns : goal.returns
returns c = rw (c.if-decisive.false, c.holds-x.ensures, c.holds-y.ensures) (group_pair c.args.operands.now c.args.k (true_in c.args.kept.now) false c.args.start _ _ c.word-a.ensures.value c.word-b.ensures.value (omega (arith, c.requires)) (omega (arith, c.if-max-k.false, c.max.ensures)) (omega (arith, c.if-max-k.false, c.max.ensures)))
