use native.Mathlib.Omega.{arith}
use mathlib.Core.Path.{◌∙◌}
use Rattle.answers.specs.PackLaws.{planned_fits, planned-packed, refused_fits, refused_packed}
use Rattle.answers.proofs.pack_planning.Goals as goal

pub pack-requires : goal.pack-requires
pack-requires c = (omega arith, planned_fits c.args.planning _ c.in-Ok.is c.requires, omega arith)

pub pack_refusal-requires : goal.pack_refusal-requires
pack_refusal-requires c = refused_fits c.args.planning _ c.in-Err.is c.requires

pub returns-in-Ok : goal.returns-in-Ok
returns-in-Ok c = c.pack.ensures ∙ planned-packed c.args.planning _ c.in-Ok.is

pub returns-in-Err : goal.returns-in-Err
returns-in-Err c = c.pack_refusal.ensures ∙ refused_packed c.args.planning _ c.in-Err.is
