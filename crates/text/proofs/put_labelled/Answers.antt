use Rattle.text.specs.ClipLaws.{put_then}
use Rattle.text.proofs.put_labelled.Goals as goal

pub returns : goal.returns
returns c = put_then c.put_text-end.ensures c.put_field.ensures
