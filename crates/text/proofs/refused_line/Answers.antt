use mathlib.Core.Path.{ap}
use lib.ListN.{length}
use native.Mathlib.Omega.{arith}
use Rattle.text.specs.Lines.{told_of}
use Rattle.text.specs.LinesLaws.{length-spaced, length-told}
use Rattle.text.specs.PieceLaws.{put_refused_line}
use Rattle.text.proofs.refused_line.Goals as goal

pub put-requires : goal.put-requires
put-requires c = omega (
  arith,
  c.put_text-end.ensures.on,
  c.put_told-end.ensures.on,
  length-spaced (told_of c.numbers_of.result),
  ap length c.numbers_of.ensures,
  length-told c.args.r,
)

pub returns : goal.returns
returns c = put_refused_line c.args.r (told_of c.numbers_of.result) c.numbers_of.ensures c.put_text-end.ensures c.put_told-end.ensures c.put.ensures
