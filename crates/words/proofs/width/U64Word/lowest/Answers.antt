use Rattle.words.specs.PlaceLaws.{place_trailing}
use Rattle.words.proofs.width.U64Word.lowest.Goals as goal

pub returns : goal.returns
returns c = place_trailing 64 _ _ c.bits.ensures
