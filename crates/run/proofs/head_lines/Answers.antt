use native.Mathlib.Omega.{arith}
use mathlib.Core.Path.{sym}
use lib.Seq.{length-take-le}
use Rattle.text.specs.ClipLaws.{put_then, put_end}
use Rattle.text.specs.LinesLaws.{length-theory_line}
use Rattle.run.proofs.head_lines.Goals as goal

pub slice_bounds-ranks_line-end : goal.slice_bounds-ranks_line-end
slice_bounds-ranks_line-end c = sym (length-take-le c.args.counts.atoms c.args.ranks.now c.requires.1)

pub ranks_line-requires : goal.ranks_line-requires
ranks_line-requires c = (omega (arith, put_end 200 c.theory_line-end.ensures (length-theory_line c.args.counts c.args.p)), omega (arith, length-take-le c.args.counts.atoms c.args.ranks.now c.requires.1, c.requires.0))

pub returns : goal.returns
returns c = put_then c.theory_line-end.ensures c.ranks_line.ensures
