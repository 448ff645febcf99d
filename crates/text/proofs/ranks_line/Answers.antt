use native.Mathlib.Omega.{arith}
use Rattle.text.specs.LinesLaws.{length-spaced}
use Rattle.text.specs.PieceLaws.{put_ranks_line}
use Rattle.text.proofs.ranks_line.Goals as goal

pub put-requires : goal.put-requires
put-requires c = omega (arith, c.put_text-end.ensures.on, c.put_words-end.ensures.on, length-spaced c.args.ranks.now)

pub returns : goal.returns
returns c = put_ranks_line c.args.ranks.now c.put_text-end.ensures c.put_words-end.ensures c.put.ensures
