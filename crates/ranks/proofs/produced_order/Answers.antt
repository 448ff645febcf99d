use native.Mathlib.Omega.{arith}
use mathlib.Core.Path.{◌≡◌, ◌∙◌, ap}
use Rattle.std.specs.Prelude.{Some, None, Ok}
use Rattle.ranks.specs.MadeIn.{MadeIn}
use Rattle.ranks.specs.RankCheck.{produced_order}
use Rattle.ranks.proofs.produced_order.Goals as goal

pub body_order-requires : goal.body_order-requires
body_order-requires c =
    let e : c.args.made ≡ Ok (Some c.in-Ok-Some.p) = c.in-Ok-Some.is ∙ ap Ok (rw c.in-Ok-Some.is at c.in-Ok-Some.field-0-is) in
    let m : MadeIn c.args.counts (Ok (Some c.in-Ok-Some.p)) = rw e at c.requires.3 in
    (omega (arith, m.1), omega (arith, m.1), omega (arith, m.0))

pub returns-in-Ok-Some : goal.returns-in-Ok-Some
unfolding produced_order
returns-in-Ok-Some c =
    let e : c.args.made ≡ Ok (Some c.in-Ok-Some.p) = c.in-Ok-Some.is ∙ ap Ok (rw c.in-Ok-Some.is at c.in-Ok-Some.field-0-is) in
    rw e c.body_order.ensures

pub returns-in-Ok-None : goal.returns-in-Ok-None
unfolding produced_order
returns-in-Ok-None c =
    let e : c.args.made ≡ Ok None = c.in-Ok-None.is ∙ ap Ok (rw c.in-Ok-None.is at c.in-Ok-None.field-0-is) in
    rw e

pub returns-in-Err : goal.returns-in-Err
unfolding produced_order
returns-in-Err c = rw c.in-Err.is
