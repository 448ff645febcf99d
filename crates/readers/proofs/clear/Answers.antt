use Rattle.readers.proofs.Placement.{cleared}
use Rattle.readers.proofs.clear.Goals as goal

pub returns : goal.returns
returns c = cleared _ _ _ c.requires (c.fill.ensures.after (λ y e. e))
