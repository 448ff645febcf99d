use mathlib.Core.Path.{ap, ◌∙◌}
use Rattle.base.specs.Raised.{raised}
use Rattle.update.specs.Results.{answer_of}
use Rattle.update.proofs.told.Goals as goal

pub returns : goal.returns
returns c = λ e. rw c.in_ok-verdict.was

pub returns-in_err-verdict : goal.returns-in_err-verdict
returns-in_err-verdict c = λ e. ap answer_of (raised _ _ c.from_residual.ensures.1) ∙ rw c.in_err-verdict.was
