use native.Mathlib.Omega.{arith}
use Rattle.text.specs.ClipLaws.{put_then, put_same, put_end}
use Rattle.run.specs.Text.{own_plan, candidates_in}
use Rattle.run.specs.TextLaws.{length_head, plan_refused, plan_accepted}
use Rattle.run.proofs.plan_lines.Goals as goal

pub check_lines-requires : goal.check_lines-requires
check_lines-requires c = (c.requires.0, c.requires.1, c.requires.2, omega (arith, put_end 10958 c.head_lines-end.ensures (length_head c.args.s.counts _ _ c.requires.1)))

pub returns-in-Err : goal.returns-in-Err
unfolding own_plan
returns-in-Err c = put_same
    (plan_refused c.args.s.counts c.args.nodes.now c.args.operands.now c.args.roots.now (candidates_in c.args.file.now) _ _ _ _ _ c.plan-planning.ensures _ c.in-Err.is)
    c.refused_line.ensures

pub returns-in-Ok : goal.returns-in-Ok
unfolding own_plan
returns-in-Ok c = put_same
    (plan_accepted c.args.s.counts c.args.nodes.now c.args.operands.now c.args.roots.now (candidates_in c.args.file.now) _ _ _ _ _ c.plan-planning.ensures _ c.in-Ok.is)
    (put_then c.head_lines-end.ensures c.check_lines.ensures)
