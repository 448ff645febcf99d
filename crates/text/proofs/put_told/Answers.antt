use native.Mathlib.Omega.{arith}
use Rattle.text.specs.ClipLaws.{put_end}
use Rattle.text.specs.LinesLaws.{length-field}
use Rattle.text.specs.PieceLaws.{put_told_two, put_told_three}
use Rattle.text.proofs.put_told.Goals as goal

pub put_field-end-requires-2 : goal.put_field-end-requires-2
put_field-end-requires-2 c = omega (arith, put_end 21 c.put_field-end.ensures (length-field c.args.t.number))

pub put_field-requires : goal.put_field-requires
put_field-requires c = omega (
  arith,
  put_end 21 c.put_field-end.ensures (length-field c.args.t.number),
  put_end 21 c.put_field-end-2.ensures (length-field c.args.t.place),
)

pub returns-in-Some : goal.returns-in-Some
returns-in-Some c = put_told_three c.args.t.number c.args.t.place c.args.t.body c.put_field-end.ensures c.put_field-end-2.ensures _ c.in-Some.is c.put_field.ensures

pub returns-in-None : goal.returns-in-None
returns-in-None c = put_told_two c.args.t.number c.args.t.place c.args.t.body c.put_field-end.ensures c.put_field-end-2.ensures c.in-None.is
