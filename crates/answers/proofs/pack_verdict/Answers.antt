use native.Mathlib.Omega.{arith}
use mathlib.Core.Path.{◌∙◌}
use Rattle.answers.specs.PackLaws.{visited_fit, root_fits, atom_fits, stable_packed, not_model_packed, residual_packed}
use Rattle.answers.proofs.pack_verdict.Goals as goal

pub overflow_mul-root : goal.overflow_mul-root
overflow_mul-root c = omega (arith, (root_fits c.args.v c.args.n c.requires _ c.in-NotModel.is))

pub overflow_add-root : goal.overflow_add-root
overflow_add-root c = omega (arith, (root_fits c.args.v c.args.n c.requires _ c.in-NotModel.is))

pub pack-requires-in-NotModel : goal.pack-requires-in-NotModel
pack-requires-in-NotModel c = (omega arith, omega (arith, (root_fits c.args.v c.args.n c.requires _ c.in-NotModel.is)), visited_fit c.args.v c.args.n c.requires)

pub overflow_mul-atom : goal.overflow_mul-atom
overflow_mul-atom c = omega (arith, (atom_fits c.args.v c.args.n c.requires _ c.in-Residual.is))

pub overflow_add-atom : goal.overflow_add-atom
overflow_add-atom c = omega (arith, (atom_fits c.args.v c.args.n c.requires _ c.in-Residual.is))

pub pack-requires-in-Residual : goal.pack-requires-in-Residual
pack-requires-in-Residual c = (omega arith, omega (arith, (atom_fits c.args.v c.args.n c.requires _ c.in-Residual.is)), visited_fit c.args.v c.args.n c.requires)

pub returns-in-Stable : goal.returns-in-Stable
returns-in-Stable c = c.pack.ensures ∙ stable_packed c.args.v c.args.n c.in-Stable.is

pub returns-in-NotModel : goal.returns-in-NotModel
returns-in-NotModel c = c.pack-in-NotModel.ensures ∙ not_model_packed c.args.v c.args.n _ c.in-NotModel.is

pub returns-in-Residual : goal.returns-in-Residual
returns-in-Residual c = c.pack-in-Residual.ensures ∙ residual_packed c.args.v c.args.n _ c.in-Residual.is
