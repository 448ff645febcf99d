use native.Mathlib.Omega.{arith}
use mathlib.Core.Path.{◌≡◌, sym, ap, ◌∙◌}
use Prim.Native.Nat.{◌+◌}
use lib.ListN.{length}
use Rattle.std.specs.Prelude.{option_copied}
use Rattle.base.specs.Raised.{raised}
use Rattle.ranks.specs.Highest.{part-rest}
use Rattle.theory.specs.Admission.{admitted}
use Rattle.plan.specs.Finished.{judged_by, planned_refused, planned_done, area_ready, area_zero, classes_part, classes_long, source_part, source_long}
use Rattle.plan.specs.Called.{source_enough, source_ranks}
use Rattle.plan.proofs.plan_entered.Goals as goal

pub judge-requires : goal.judge-requires
judge-requires c = (area_ready c.args.counts c.args.nodes.now c.args.operands.now c.args.roots.now _ _ _ c.args.work.now c.requires _ (part-rest 16 c.args.work.now), area_zero c.args.counts c.args.nodes.now c.args.operands.now c.args.roots.now _ _ _ c.args.work.now c.requires _ (part-rest 16 c.args.work.now))

pub returns-in_err-judge : goal.returns-in_err-judge
unfolding judged_by
returns-in_err-judge c = rw (raised _ _ c.from_residual.ensures.1) (planned_refused c.args.counts c.args.nodes.now c.args.operands.now c.args.roots.now c.args.producers.now c.args.ranks.now c.args.readers.now c.args.work.now _ _ _ (sym c.judge.ensures.answer ∙ c.in_err-judge.was))

pub finish-requires-clause-limited : goal.finish-requires-clause-limited
unfolding judged_by
finish-requires-clause-limited c = (
  c.requires.limited,
  c.requires.tables,
  c.requires.listed,
  classes_long c.args.work.now c.judge.new.area (omega (arith, c.requires.work_long)) (c.judge.auto.area ∙ ap length (part-rest 16 c.args.work.now)) c.args.counts.nodes (omega (arith, c.requires.work_long)),
  rw c.unwrap_or.ensures (source_enough c.args.counts c.args.nodes.now c.args.operands.now c.args.roots.now c.args.proposed _ (sym c.judge.ensures.answer ∙ c.in_ok-judge.was) (source_long c.args.work.now c.judge.new.area (omega (arith, c.requires.work_long)) (c.judge.auto.area ∙ ap length (part-rest 16 c.args.work.now)) c.args.counts.nodes (c.args.counts.atoms + c.args.counts.nodes) c.args.counts.atoms (omega (arith, c.requires.work_long)))),
)

pub returns : goal.returns
unfolding judged_by
returns c =
    let e : judged_by c.args.counts c.args.nodes.now c.args.operands.now c.args.roots.now (option_copied c.args.proposed) ≡ admitted = sym c.judge.ensures.answer ∙ c.in_ok-judge.was in
    planned_done c.args.counts c.args.nodes.now c.args.operands.now c.args.roots.now c.args.producers.now c.args.ranks.now c.args.readers.now c.args.work.now _ _ _ _ _ _ _ _ e
    (classes_part c.args.work.now c.judge.new.area (omega (arith, c.requires.work_long)) (c.judge.auto.area ∙ ap length (part-rest 16 c.args.work.now)) c.args.counts.nodes ∙ c.judge.ensures.classes c.in_ok-judge.was)
    (rw c.unwrap_or.ensures (source_ranks c.args.counts c.args.nodes.now c.args.operands.now c.args.roots.now c.args.proposed _ e (λ n. source_part c.args.work.now c.judge.new.area (omega (arith, c.requires.work_long)) (c.judge.auto.area ∙ ap length (part-rest 16 c.args.work.now)) c.args.counts.nodes (c.args.counts.atoms + c.args.counts.nodes) c.args.counts.atoms (omega (arith, c.requires.work_long)) ∙ c.judge.ensures.ranked c.in_ok-judge.was (ap option_copied n))))
    c.finish.ensures
