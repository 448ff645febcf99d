use mathlib.Core.Path.{◌∙◌}
use Rattle.answers.specs.PackLaws.{accepted_fits, check_refused_fits, accepted_packed, check_refused_packed}
use Rattle.answers.proofs.pack_checked.Goals as goal

pub pack_verdict-requires : goal.pack_verdict-requires
pack_verdict-requires c = accepted_fits c.args.checked _ c.in-Ok.is c.requires

pub pack_refusal-requires : goal.pack_refusal-requires
pack_refusal-requires c = check_refused_fits c.args.checked _ c.in-Err.is c.requires

pub returns-in-Ok : goal.returns-in-Ok
returns-in-Ok c = c.pack_verdict.ensures ∙ accepted_packed c.args.checked _ c.in-Ok.is

pub returns-in-Err : goal.returns-in-Err
returns-in-Err c = c.pack_refusal.ensures ∙ check_refused_packed c.args.checked _ c.in-Err.is
