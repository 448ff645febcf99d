use Rattle.complete.specs.Branches.{body_some}
use mathlib.Core.Path.{◌∙◌}
use Rattle.node_truth.specs.InWords.{true_in}
use Rattle.kept.specs.Evaluation.{body_true}
use native.Mathlib.Omega.{arith}
use Rattle.complete.proofs.body_true.Goals as goal

pub returns-in-0 : goal.returns-in-0
unfolding body_true
returns-in-0 c = rw c.in-0.is

pub returns-in_default : goal.returns-in_default
returns-in_default c = c.holds.ensures ∙ body_some (true_in c.args.kept.now) c.args.body (λ e. omega (arith, c.in_default.in_default-own.rest))
