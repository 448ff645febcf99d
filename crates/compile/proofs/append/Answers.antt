use native.Mathlib.Omega.{arith}
use mathlib.Core.Path.{◌≡◌, ◌∙◌, ap}
use Rattle.std.specs.Prelude.{Some, None, Ok}
use Rattle.compile.specs.Producers.{made_by}
use Rattle.compile.specs.ProducersLaws.{MadeSmall, appended}
use Rattle.compile.proofs.append.Goals as goal

pub store-requires : goal.store-requires
store-requires c =
    let e : c.args.made ≡ Ok (Some c.in-Ok-Some.p) = c.in-Ok-Some.is ∙ ap Ok (rw c.in-Ok-Some.is at c.in-Ok-Some.field-0-is) in
    let s : MadeSmall (Ok (Some c.in-Ok-Some.p)) = rw e at c.requires.1 in
    (omega (arith, c.requires.0), s.0, s.1, s.2)

pub returns-in-Ok-Some : goal.returns-in-Ok-Some
unfolding made_by appended
returns-in-Ok-Some c =
    let e : c.args.made ≡ Ok (Some c.in-Ok-Some.p) = c.in-Ok-Some.is ∙ ap Ok (rw c.in-Ok-Some.is at c.in-Ok-Some.field-0-is) in
    (rw e, rw e c.store.ensures)

pub returns-in-Ok-None : goal.returns-in-Ok-None
unfolding made_by appended
returns-in-Ok-None c =
    let e : c.args.made ≡ Ok None = c.in-Ok-None.is ∙ ap Ok (rw c.in-Ok-None.is at c.in-Ok-None.field-0-is) in
    (rw e (omega arith), rw e)

pub returns-in-Err : goal.returns-in-Err
unfolding made_by appended
returns-in-Err c = (rw c.in-Err.is (omega arith), rw c.in-Err.is)
