use native.Mathlib.Omega.{arith}
use mathlib.Core.Path.{refl}
use Rattle.kept_laws.specs.Given.{sized}
use Rattle.complete.specs.ResetLaws.{cleared}
use Rattle.complete.proofs.empty.Goals as goal

pub offset_bounds-kept-worklist : goal.offset_bounds-kept-worklist
offset_bounds-kept-worklist c = omega (arith, c.requires.0.nodes, c.requires.0.atoms, c.requires.0.roots)

pub slice_bounds-fill-count : goal.slice_bounds-fill-count
slice_bounds-fill-count c = rw c.candidate_at-candidate.ensures (omega arith)

pub slice_bounds-fill-start : goal.slice_bounds-fill-start
slice_bounds-fill-start c = rw c.candidate_at-candidate.ensures (omega arith)

pub slice_bounds-fill-end : goal.slice_bounds-fill-end
slice_bounds-fill-end c = rw c.candidate_at-candidate.ensures (omega (arith, c.requires.1))

pub slice_bounds-fill-count-2 : goal.slice_bounds-fill-count-2
slice_bounds-fill-count-2 c = rw (c.missing_at-missing.ensures, c.groups_at.ensures) (omega arith)

pub slice_bounds-fill-start-2 : goal.slice_bounds-fill-start-2
slice_bounds-fill-start-2 c = rw (c.missing_at-missing.ensures, c.groups_at.ensures) (omega arith)

pub returns : goal.returns
returns c = let g = c.args in λ T. rw (c.missing_at-missing.ensures, c.groups_at.ensures, c.candidate_at-candidate.ensures) (cleared (sized g.counts T) g.kept.now c.requires.1 c.fill.new.self _ c.fill-2.new.self (rw c.candidate_at-candidate.ensures at (c.fill.ensures.after (λ y e. e))) refl (rw (c.missing_at-missing.ensures, c.groups_at.ensures, c.candidate_at-candidate.ensures) at (c.fill-2.ensures.after (λ y e. e))))
