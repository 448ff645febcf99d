use Rattle.load.proofs.Laws.{stored_is}
use Rattle.load.proofs.store.Goals as goal

pub returns : goal.returns
returns c = stored_is _ _ _ _ _ _ _ _ _ _ _ _ _ c.requires.0 c.node_words.ensures c.operand_count.ensures c.root_count.ensures c.put.ensures c.copy.ensures c.copy-2.ensures
