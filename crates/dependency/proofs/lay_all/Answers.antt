use mathlib.Core.Path.{◌∙◌}
use Rattle.dependency.specs.LayingLaws.{ready_later, laying_starts, laying_more, laying_less, laying_ends}
use Rattle.dependency.proofs.lay_all.Goals as goal

pub loop-next-init : goal.loop-next-init
loop-next-init c = laying_starts _ _ _ _ _ _ c.requires.0 c.requires.1

pub lay_next-requires : goal.lay_next-requires
lay_next-requires c = (ready_later _ _ _ _ _ _ _ c.loop-next.invariant.long c.requires.0, c.loop-next.invariant.laid)

pub loop-next-smaller : goal.loop-next-smaller
loop-next-smaller c = laying_less _ _ _ _ _ _ _ _ _ c.loop-next.invariant _ c.in-Some.ensures

pub loop-next-preserved : goal.loop-next-preserved
loop-next-preserved c = laying_more _ _ _ _ _ _ _ _ _ c.loop-next.invariant _ c.in-Some.ensures

pub shape_of-area : goal.shape_of-area
shape_of-area c = c.lay_next.ensures.long ∙ c.loop-next.invariant.long

pub returns : goal.returns
returns c = laying_ends _ _ _ _ _ _ _ _ _ c.loop-next.invariant c.in_default.ensures
