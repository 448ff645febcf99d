use mathlib.Core.Path.{◌∙◌, refl}
use Rattle.readers.proofs.Steps.{root_one}
use Rattle.readers.proofs.Left.{number_fits, number_next, numbers_done, room_one, pass_one}
use Rattle.readers.proofs.pass_roots.Goals as goal

pub enter-requires : goal.enter-requires
enter-requires g c = room_one _ _ _ _ _ (root_one _ _ _ _ refl c.root.ensures) (number_fits _ _ _ _ _ _ _ c.loop-i.invariant c.loop-i-test.true)

pub loop-i-preserved : goal.loop-i-preserved
loop-i-preserved g c = number_next _ _ _ _ _ _ _ c.loop-i.invariant c.loop-i-test.true _ (c.enter.ensures ∙ pass_one _ _ _ _ (root_one _ _ _ _ refl c.root.ensures))

pub returns : goal.returns
returns g c = numbers_done _ _ _ _ _ _ _ c.loop-i.invariant c.loop-i-test.false
