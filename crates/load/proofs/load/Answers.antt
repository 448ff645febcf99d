use mathlib.Core.Path.{sym, ◌∙◌}
use Rattle.base.specs.Raised.{raised}
use Rattle.load.proofs.Outcomes.{not_sound}
use Rattle.load.proofs.load.Goals as goal

pub returns-in_err-s : goal.returns-in_err-s
returns-in_err-s c = not_sound _ _ _ _ (raised _ _ c.from_residual.ensures.1) (sym c.judge.ensures ∙ c.in_err-s.was)
