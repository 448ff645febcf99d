use mathlib.Core.Path.{◌≡◌, ◌∙◌}
use Rattle.readers.specs.Incidences.{producer_items}
use Rattle.readers.specs.Pass.{passed_all}
use Rattle.readers.proofs.Steps.{body_none, body_one}
use Rattle.readers.proofs.Left.{number_fits, number_next, numbers_done, room_one, pass_one, pass_none}
use Rattle.readers.proofs.pass_producers.Goals as goal
use Rattle.readers.proofs.pass_producers.Goals.{in-Some, in_default}

pub enter-requires : goal.enter-requires
enter-requires g c = room_one _ _ _ _ _ (body_one _ _ _ c.word.ensures.value _ _ c.in-Some.ensures c.producer.ensures) (number_fits _ _ _ _ _ _ _ c.loop-i.invariant c.loop-i-test.true)

pub loop-i-preserved : goal.loop-i-preserved
loop-i-preserved g c =
    let turned : c.match-checked_sub.table ≡ passed_all g.P.Pass.after (producer_items c.args.producers.now c.loop-i.i) c.loop-i.table =
    elim c.match-checked_sub.branch [
      | in-Some w ↦ w.table-is ∙ w.enter.ensures ∙ pass_one _ _ _ _ (body_one _ _ _ c.word.ensures.value _ _ w.in-Some.ensures w.producer.ensures)
      | in_default w ↦ w.table-is ∙ pass_none _ _ _ (body_none _ _ _ c.word.ensures.value w.in_default.ensures)
    ] in
    number_next _ _ _ _ _ _ _ c.loop-i.invariant c.loop-i-test.true _ turned

pub returns : goal.returns
returns g c = numbers_done _ _ _ _ _ _ _ c.loop-i.invariant c.loop-i-test.false
