use Rattle.evaluate.specs.ChecksLaws.{settled_accepted, settled_refused}
use lib.Seq.{length-take-le}
use lib.ListN.{drop, replicate}
use mathlib.Core.List.{◌++◌}
use mathlib.Core.Path.{refl, sym, ap, ◌∙◌}
use Rattle.evaluate.proofs.settle.Goals as goal

pub returns-in_default : goal.returns-in_default
returns-in_default c = (refl, settled_accepted c.args.n c.args.checked c.args.kept.now _ c.in_default.is)

pub slice_bounds-fill-end-2 : goal.slice_bounds-fill-end-2
slice_bounds-fill-end-2 c = sym (length-take-le c.args.n c.args.kept.now c.requires)

pub returns : goal.returns
returns c = (refl, ap (λ l. l ++ drop c.args.n c.args.kept.now) (c.fill.ensures.after (λ y e. e) ∙ ap (λ m. replicate m 0) (length-take-le c.args.n c.args.kept.now c.requires)) ∙ settled_refused c.args.n c.args.checked c.args.kept.now _ c.in-Err.is)
