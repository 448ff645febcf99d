use Rattle.base.specs.Raised.{raised}
use Rattle.evaluate.specs.ChecksLaws.{passed, outcome_refused, outcome_checked}
use Rattle.evaluate.specs.Checks.{tables_of, candidate_of, outcome_of}
use Rattle.kept.specs.LayoutLaws.{room}
use lib.Seq.{length-take-le}
use lib.ListN.{length}
use mathlib.Core.Path.{refl, ap, sym, ◌∙◌}
use native.Mathlib.Omega.{arith}
use Rattle.evaluate.proofs.check.Goals as goal

pub overflow_add-words : goal.overflow_add-words
overflow_add-words c = omega (arith, (passed (tables_of c.args.counts c.args.plan c.args.nodes.now c.args.operands.now c.args.roots.now c.args.producers.now c.args.readers.now) (candidate_of c.args.stamp c.args.candidate.now) (length c.args.kept.now) (sym c.in_ok-tests.was ∙ c.tests.ensures (tables_of c.args.counts c.args.plan c.args.nodes.now c.args.operands.now c.args.roots.now c.args.producers.now c.args.readers.now) (record { counts = refl; stamp = refl; nodes = refl; operands = refl; roots = refl; producers = refl; readers = refl }))).limited.atoms)

pub slice_bounds-evaluate-end : goal.slice_bounds-evaluate-end
slice_bounds-evaluate-end c = sym (length-take-le _ c.args.candidate.now (passed (tables_of c.args.counts c.args.plan c.args.nodes.now c.args.operands.now c.args.roots.now c.args.producers.now c.args.readers.now) (candidate_of c.args.stamp c.args.candidate.now) (length c.args.kept.now) (sym c.in_ok-tests.was ∙ c.tests.ensures (tables_of c.args.counts c.args.plan c.args.nodes.now c.args.operands.now c.args.roots.now c.args.producers.now c.args.readers.now) (record { counts = refl; stamp = refl; nodes = refl; operands = refl; roots = refl; producers = refl; readers = refl }))).candidate_long)

pub evaluate-checked-requires : goal.evaluate-checked-requires
evaluate-checked-requires c = let p = passed (tables_of c.args.counts c.args.plan c.args.nodes.now c.args.operands.now c.args.roots.now c.args.producers.now c.args.readers.now) (candidate_of c.args.stamp c.args.candidate.now) (length c.args.kept.now) (sym c.in_ok-tests.was ∙ c.tests.ensures (tables_of c.args.counts c.args.plan c.args.nodes.now c.args.operands.now c.args.roots.now c.args.producers.now c.args.readers.now) (record { counts = refl; stamp = refl; nodes = refl; operands = refl; roots = refl; producers = refl; readers = refl })) in (record { limited = p.limited; candidate_long = length-take-le _ c.args.candidate.now p.candidate_long; nodes_long = p.nodes_long; operands_long = p.operands_long; roots_long = p.roots_long; producers_long = p.producers_long; kept_long = omega (arith, p.kept_long, room (tables_of c.args.counts c.args.plan c.args.nodes.now c.args.operands.now c.args.roots.now c.args.producers.now c.args.readers.now)) }, p.readers_long, p.within)

pub overflow_mul-n : goal.overflow_mul-n
overflow_mul-n c = let p = passed (tables_of c.args.counts c.args.plan c.args.nodes.now c.args.operands.now c.args.roots.now c.args.producers.now c.args.readers.now) (candidate_of c.args.stamp c.args.candidate.now) (length c.args.kept.now) (sym c.in_ok-tests.was ∙ c.tests.ensures (tables_of c.args.counts c.args.plan c.args.nodes.now c.args.operands.now c.args.roots.now c.args.producers.now c.args.readers.now) (record { counts = refl; stamp = refl; nodes = refl; operands = refl; roots = refl; producers = refl; readers = refl })) in omega (arith, p.limited.nodes)

pub overflow_add-n : goal.overflow_add-n
overflow_add-n c = let p = passed (tables_of c.args.counts c.args.plan c.args.nodes.now c.args.operands.now c.args.roots.now c.args.producers.now c.args.readers.now) (candidate_of c.args.stamp c.args.candidate.now) (length c.args.kept.now) (sym c.in_ok-tests.was ∙ c.tests.ensures (tables_of c.args.counts c.args.plan c.args.nodes.now c.args.operands.now c.args.roots.now c.args.producers.now c.args.readers.now) (record { counts = refl; stamp = refl; nodes = refl; operands = refl; roots = refl; producers = refl; readers = refl })) in omega (arith, p.limited.nodes)

pub overflow_mul-n-2 : goal.overflow_mul-n-2
overflow_mul-n-2 c = let p = passed (tables_of c.args.counts c.args.plan c.args.nodes.now c.args.operands.now c.args.roots.now c.args.producers.now c.args.readers.now) (candidate_of c.args.stamp c.args.candidate.now) (length c.args.kept.now) (sym c.in_ok-tests.was ∙ c.tests.ensures (tables_of c.args.counts c.args.plan c.args.nodes.now c.args.operands.now c.args.roots.now c.args.producers.now c.args.readers.now) (record { counts = refl; stamp = refl; nodes = refl; operands = refl; roots = refl; producers = refl; readers = refl })) in omega (arith, p.limited.atoms)

pub overflow_add-n-2 : goal.overflow_add-n-2
overflow_add-n-2 c = let p = passed (tables_of c.args.counts c.args.plan c.args.nodes.now c.args.operands.now c.args.roots.now c.args.producers.now c.args.readers.now) (candidate_of c.args.stamp c.args.candidate.now) (length c.args.kept.now) (sym c.in_ok-tests.was ∙ c.tests.ensures (tables_of c.args.counts c.args.plan c.args.nodes.now c.args.operands.now c.args.roots.now c.args.producers.now c.args.readers.now) (record { counts = refl; stamp = refl; nodes = refl; operands = refl; roots = refl; producers = refl; readers = refl })) in omega (arith, p.limited.nodes, p.limited.atoms)

pub overflow_add-n-3 : goal.overflow_add-n-3
overflow_add-n-3 c = let p = passed (tables_of c.args.counts c.args.plan c.args.nodes.now c.args.operands.now c.args.roots.now c.args.producers.now c.args.readers.now) (candidate_of c.args.stamp c.args.candidate.now) (length c.args.kept.now) (sym c.in_ok-tests.was ∙ c.tests.ensures (tables_of c.args.counts c.args.plan c.args.nodes.now c.args.operands.now c.args.roots.now c.args.producers.now c.args.readers.now) (record { counts = refl; stamp = refl; nodes = refl; operands = refl; roots = refl; producers = refl; readers = refl })) in omega (arith, p.limited.nodes, p.limited.atoms, p.limited.roots)

pub settle-requires : goal.settle-requires
settle-requires c = let p = passed (tables_of c.args.counts c.args.plan c.args.nodes.now c.args.operands.now c.args.roots.now c.args.producers.now c.args.readers.now) (candidate_of c.args.stamp c.args.candidate.now) (length c.args.kept.now) (sym c.in_ok-tests.was ∙ c.tests.ensures (tables_of c.args.counts c.args.plan c.args.nodes.now c.args.operands.now c.args.roots.now c.args.producers.now c.args.readers.now) (record { counts = refl; stamp = refl; nodes = refl; operands = refl; roots = refl; producers = refl; readers = refl })) in omega (arith, c.kept-1, p.kept_long)

pub returns-in_err-tests : goal.returns-in_err-tests
returns-in_err-tests c = ap (λ r. outcome_of r c.args.kept.now) (raised _ _ c.from_residual.ensures.1) ∙ outcome_refused (tables_of c.args.counts c.args.plan c.args.nodes.now c.args.operands.now c.args.roots.now c.args.producers.now c.args.readers.now) (candidate_of c.args.stamp c.args.candidate.now) c.args.kept.now _ (sym c.in_err-tests.was ∙ c.tests.ensures (tables_of c.args.counts c.args.plan c.args.nodes.now c.args.operands.now c.args.roots.now c.args.producers.now c.args.readers.now) (record { counts = refl; stamp = refl; nodes = refl; operands = refl; roots = refl; producers = refl; readers = refl }))

pub returns : goal.returns
returns c = rw (c.settle.ensures.0, c.settle.ensures.1) (outcome_checked (tables_of c.args.counts c.args.plan c.args.nodes.now c.args.operands.now c.args.roots.now c.args.producers.now c.args.readers.now) (candidate_of c.args.stamp c.args.candidate.now) c.args.kept.now (sym c.in_ok-tests.was ∙ c.tests.ensures (tables_of c.args.counts c.args.plan c.args.nodes.now c.args.operands.now c.args.roots.now c.args.producers.now c.args.readers.now) (record { counts = refl; stamp = refl; nodes = refl; operands = refl; roots = refl; producers = refl; readers = refl })) c.evaluate-checked.result _ (c.evaluate-checked.ensures (tables_of c.args.counts c.args.plan c.args.nodes.now c.args.operands.now c.args.roots.now c.args.producers.now c.args.readers.now)))
