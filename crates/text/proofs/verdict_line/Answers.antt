use native.Mathlib.Omega.{arith}
use Rattle.verdict.specs.Told.{verdict_as}
use Rattle.text.specs.ClipLaws.{put_end}
use Rattle.text.specs.DecimalLaws.{length-decimal}
use Rattle.text.specs.LinesLaws.{length-field, length-verdict_text}
use Rattle.text.specs.PieceLaws.{put_verdict_line}
use Rattle.text.proofs.verdict_line.Goals as goal

pub put_verdict-end-requires : goal.put_verdict-end-requires
put_verdict-end-requires c = omega (arith, put_end 20 c.put_number-end.ensures (length-decimal c.args.i))

pub put_field-last-requires : goal.put_field-last-requires
put_field-last-requires c = omega (arith, put_end 20 c.put_number-end.ensures (length-decimal c.args.i), put_end 30 c.put_verdict-end.ensures (length-verdict_text (verdict_as c.args.v)))

pub put-requires : goal.put-requires
put-requires c = omega (arith, put_end 20 c.put_number-end.ensures (length-decimal c.args.i), put_end 30 c.put_verdict-end.ensures (length-verdict_text (verdict_as c.args.v)), put_end 21 c.put_field-last.ensures (length-field c.args.n))

pub returns : goal.returns
returns c = put_verdict_line c.args.i (verdict_as c.args.v) c.args.n c.put_number-end.ensures c.put_verdict-end.ensures c.put_field-last.ensures c.put.ensures
