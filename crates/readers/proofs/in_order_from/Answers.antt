use Rattle.readers.specs.LaidLaws.{order_read}
use Rattle.readers.proofs.in_order_from.Goals as goal

pub returns : goal.returns
returns c = order_read _ _ _ _ c.requires.1 c.word.ensures.value _ _ c.ordered.ensures
