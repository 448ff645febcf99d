use Rattle.text.specs.PieceLaws.{put_spaced}
use Rattle.text.proofs.put_field.Goals as goal

pub returns : goal.returns
returns c = put_spaced c.args.n c.put-end.ensures c.put_number.ensures
