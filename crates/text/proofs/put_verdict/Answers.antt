use Rattle.text.specs.Lines.{verdict_text}
use Rattle.text.proofs.put_verdict.Goals as goal

pub returns-in-NotModel : goal.returns-in-NotModel
unfolding verdict_text
returns-in-NotModel c = rw c.in-NotModel.is c.put_labelled.ensures

pub returns-in-Residual : goal.returns-in-Residual
unfolding verdict_text
returns-in-Residual c = rw c.in-Residual.is c.put_labelled-in-Residual.ensures

pub returns-in-Stable : goal.returns-in-Stable
unfolding verdict_text
returns-in-Stable c = rw c.in-Stable.is c.put_text.ensures
