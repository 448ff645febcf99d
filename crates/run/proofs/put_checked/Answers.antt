use Rattle.run.specs.Text.{check_line}
use Rattle.run.proofs.put_checked.Goals as goal

pub returns-in-Ok : goal.returns-in-Ok
unfolding check_line
returns-in-Ok c = rw c.in-Ok.is c.verdict_line.ensures

pub returns-in-Err : goal.returns-in-Err
unfolding check_line
returns-in-Err c = rw c.in-Err.is c.refused_line.ensures
