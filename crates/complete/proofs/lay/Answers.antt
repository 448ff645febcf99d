use mathlib.Core.Path.{◌≡◌, ap, refl, ◌∙◌}
use mathlib.Core.Bool.{true, false}
use Rattle.std.specs.Prelude.{Some}
use Rattle.complete.proofs.lay.Goals as goal

pub returns-in-None : goal.returns-in-None
returns-in-None c = rw c.in-None.is (refl, refl)

pub returns-in-Some-true : goal.returns-in-Some-true
returns-in-Some-true c =
    let e : c.args.seen ≡ Some true = c.in-Some-true.is ∙ ap Some c.in-Some-true.field-0-test in
    rw e (refl, refl)

pub returns-in-Some-false : goal.returns-in-Some-false
returns-in-Some-false c =
    let e : c.args.seen ≡ Some false = c.in-Some-false.is ∙ ap Some c.in-Some-false.field-0-test in
    rw e (refl, refl)
