use native.Mathlib.Omega.{arith}
use mathlib.Core.Path.{ap, ◌∙◌}
use lib.ListN.{get_or}
use Rattle.kept.specs.CountedSet.{lookup}
use Rattle.kept_laws.specs.Given.{sized}
use Rattle.verdict.specs.ToldLaws.{none_missing, lent_missing}
use Rattle.verdict.proofs.first_missing.Goals as goal

pub returns-then-kept-eq0 : goal.returns-then-kept-eq0
returns-then-kept-eq0 c = λ T. none_missing (sized c.args.counts T) c.args.kept.now c.args.counts.atoms c.if-kept-eq0.true

pub slice_bounds-lowest-end : goal.slice_bounds-lowest-end
slice_bounds-lowest-end c = rw c.false_roots_at-end.ensures (omega (arith, c.requires.1))

pub returns : goal.returns
returns c = λ T. (rw (c.missing_at-at.ensures, c.false_roots_at-end.ensures) at (c.lowest.ensures (get_or c.args.kept.now 2 0) c.if-kept-eq0.false)) ∙ ap (λ s. lookup c.args.counts.atoms 0 s) (lent_missing (sized c.args.counts T) c.args.kept.now c.requires.1)
