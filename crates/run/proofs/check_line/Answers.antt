use Rattle.evaluate.specs.Checks.{tables_of}
use Rattle.record.specs.Layout.{values_of}
use Rattle.record.specs.declared.Mark.TheVariants as mark
use Rattle.run.specs.CheckLaws.{candidate_taken, taken_long, checked_line}
use Rattle.run.proofs.check_line.Goals as goal

pub slice_bounds-check-end-2 : goal.slice_bounds-check-end-2
slice_bounds-check-end-2 c = taken_long c.args.counts.atoms (values_of c.args.file.now c.args.place mark.Candidate) _ _ c.candidate-next.ensures.1

pub returns : goal.returns
returns c = let k =
    checked_line (tables_of c.args.counts c.args.plan c.args.nodes.now c.args.operands.now c.args.roots.now c.args.producers.now c.args.readers.now)
    (values_of c.args.file.now c.args.place mark.Candidate) _ c.args.kept.now _ c.check-checked.result c.args.i c.args.at _ c.args.out.now _
    (candidate_taken c.args.counts.atoms (values_of c.args.file.now c.args.place mark.Candidate) _ _ c.candidate-next.ensures.1)
    c.check-checked.ensures c.put_checked.ensures
    in (c.candidate-next.ensures.0, k.0, k.1)
