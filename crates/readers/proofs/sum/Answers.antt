use native.Mathlib.Omega.{arith}
use Rattle.readers.proofs.Placement.{lists_long, head_put, sum_none, sum_room, sum_more}
use Rattle.readers.proofs.sum.Goals as goal

pub loop-word-init : goal.loop-word-init
loop-word-init c = sum_none _ _

pub overflow_add-start-in-loop-word : goal.overflow_add-start-in-loop-word
overflow_add-start-in-loop-word c =
    let long = lists_long c.args.n c.args.table.now c.requires.0 in
    omega (arith, sum_room _ _ _ c.args.table.now _ (omega arith) c.loop-word.invariant, c.requires.1)

pub loop-word-preserved : goal.loop-word-preserved
loop-word-preserved c =
    let long = lists_long c.args.n c.args.table.now c.requires.0 in
    sum_more _ _ _ _ _ (omega arith) c.loop-word.invariant (omega arith)

pub returns : goal.returns
returns c =
    let long = lists_long c.args.n c.args.table.now c.requires.0 in
    head_put _ _ _ _ c.requires.0 (omega arith) c.requires.2 (λ s l. c.loop-word.invariant.summed s (omega arith))
