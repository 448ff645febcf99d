use Rattle.tight.specs.CallLaws.{checked_fits, checks}
use Rattle.tight.proofs.tight_check.Goals as goal

pub pack_checked-requires : goal.pack_checked-requires
pack_checked-requires c = let call = c.check in checked_fits _ _ _ call.result _ call.ensures

pub returns : goal.returns
returns c = let call = c.check in checks _ call.result _ call.ensures _ c.pack_checked.ensures
