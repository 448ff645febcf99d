use Rattle.tight.specs.CallLaws.{planned_fits, plans}
use Rattle.tight.proofs.tight_plan.Goals as goal

pub pack_planning-requires : goal.pack_planning-requires
pack_planning-requires c = let call = c.plan in planned_fits _ _ _ _ _ _ _ _ call.result _ _ _ _ call.ensures

pub returns : goal.returns
returns c = let call = c.plan in plans _ call.result _ _ _ _ call.ensures _ c.pack_planning.ensures
