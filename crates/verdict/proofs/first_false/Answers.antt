use native.Mathlib.Omega.{arith}
use mathlib.Core.Path.{ap, ◌∙◌}
use lib.ListN.{get_or}
use Rattle.kept.specs.CountedSet.{lookup}
use Rattle.kept_laws.specs.Given.{sized}
use Rattle.verdict.specs.ToldLaws.{none_false, lent-false_roots}
use Rattle.verdict.proofs.first_false.Goals as goal

pub returns-then-kept-eq0 : goal.returns-then-kept-eq0
returns-then-kept-eq0 c = λ T. none_false (sized c.args.counts T) c.args.kept.now c.args.counts.roots c.if-kept-eq0.true

pub slice_bounds-lowest-end : goal.slice_bounds-lowest-end
slice_bounds-lowest-end c = rw c.groups_at-end.ensures (omega (arith, c.requires.1))

pub returns : goal.returns
returns c = λ T. (rw (c.false_roots_at-at.ensures, c.groups_at-end.ensures) at (c.lowest.ensures (get_or c.args.kept.now 3 0) c.if-kept-eq0.false)) ∙ ap (λ s. lookup c.args.counts.roots 0 s) (lent-false_roots (sized c.args.counts T) c.args.kept.now c.requires.1)
