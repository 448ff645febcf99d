use native.Mathlib.Omega.{arith}
use Rattle.text.specs.LinesLaws.{length-field}
use Rattle.text.specs.PieceLaws.{put_theory_line}
use borrow.Author.Rules.{rules}
use Rattle.text.proofs.theory_line.Goals as goal

pub put_labelled-end-requires-2 : goal.put_labelled-end-requires-2
put_labelled-end-requires-2 c = (
  omega (
    arith,
    c.put_labelled-end.ensures.on,
    length-field c.args.counts.stamp,
  ),
  search rules,
)

pub put_labelled-end-requires-3 : goal.put_labelled-end-requires-3
put_labelled-end-requires-3 c = (
  omega (
    arith,
    c.put_labelled-end.ensures.on,
    length-field c.args.counts.stamp,
    c.put_labelled-end-2.ensures.on,
    length-field c.args.counts.atoms,
  ),
  search rules,
)

pub put_labelled-end-requires-4 : goal.put_labelled-end-requires-4
put_labelled-end-requires-4 c = (
  omega (
    arith,
    c.put_labelled-end.ensures.on,
    length-field c.args.counts.stamp,
    c.put_labelled-end-2.ensures.on,
    length-field c.args.counts.atoms,
    c.put_labelled-end-3.ensures.on,
    length-field c.args.counts.nodes,
  ),
  search rules,
)

pub put_labelled-end-requires-5 : goal.put_labelled-end-requires-5
put_labelled-end-requires-5 c = (
  omega (
    arith,
    c.put_labelled-end.ensures.on,
    length-field c.args.counts.stamp,
    c.put_labelled-end-2.ensures.on,
    length-field c.args.counts.atoms,
    c.put_labelled-end-3.ensures.on,
    length-field c.args.counts.nodes,
    c.put_labelled-end-4.ensures.on,
    length-field c.args.counts.roots,
  ),
  search rules,
)

pub put-requires : goal.put-requires
put-requires c = omega (
  arith,
  c.put_labelled-end.ensures.on,
  length-field c.args.counts.stamp,
  c.put_labelled-end-2.ensures.on,
  length-field c.args.counts.atoms,
  c.put_labelled-end-3.ensures.on,
  length-field c.args.counts.nodes,
  c.put_labelled-end-4.ensures.on,
  length-field c.args.counts.roots,
  c.put_labelled-end-5.ensures.on,
  length-field c.args.producers,
)

pub returns : goal.returns
returns c = put_theory_line c.args.counts c.args.producers c.put_labelled-end.ensures c.put_labelled-end-2.ensures c.put_labelled-end-3.ensures c.put_labelled-end-4.ensures c.put_labelled-end-5.ensures c.put.ensures
