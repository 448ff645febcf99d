use native.Mathlib.Omega.{arith}
use mathlib.Core.Path.{refl}
use Rattle.kahn.proofs.Walk.{walk_start_lem, next-left, spreading_starts, spreading_next, spreading_more, spreading_ends}
use Rattle.kahn.proofs.spread.Goals as goal

pub word-source-requires : goal.word-source-requires
word-source-requires c = omega (arith, c.requires.2.1.fits)

pub word-link-requires : goal.word-link-requires
word-link-requires c = omega (arith, c.requires.0.long, (walk_start_lem _ _ _ _ _ _ _ _ _ c.requires.0 c.requires.2.1 c.requires.1 c.word-source.ensures.value refl).vertex)

pub loop-link-init : goal.loop-link-init
loop-link-init c = spreading_starts _ _ _ _ _ _ _ c.requires.0 _ c.requires.1 c.word-source.ensures.value c.word-link.ensures.value

pub overflow_add-n-in-loop-link : goal.overflow_add-n-in-loop-link
overflow_add-n-in-loop-link c = let h = spreading_next _ _ _ _ _ _ _ c.requires.0 _ _ _ c.loop-link.invariant _ c.requires.2.1 c.loop-link-test.true in omega (arith, h)

pub word-target-requires : goal.word-target-requires
word-target-requires c = let h = spreading_next _ _ _ _ _ _ _ c.requires.0 _ _ _ c.loop-link.invariant _ c.requires.2.1 c.loop-link-test.true in omega (arith, h)

pub overflow_add-n-in-loop-link-3 : goal.overflow_add-n-in-loop-link-3
overflow_add-n-in-loop-link-3 c = let h = spreading_next _ _ _ _ _ _ _ c.requires.0 _ _ _ c.loop-link.invariant _ c.requires.2.1 c.loop-link-test.true in omega (arith, h)

pub word-next-requires : goal.word-next-requires
word-next-requires c = let h = spreading_next _ _ _ _ _ _ _ c.requires.0 _ _ _ c.loop-link.invariant _ c.requires.2.1 c.loop-link-test.true in omega (arith, h)

pub relax-q-requires : goal.relax-q-requires
relax-q-requires c = let h = spreading_next _ _ _ _ _ _ _ c.requires.0 _ _ _ c.loop-link.invariant _ c.requires.2.1 c.loop-link-test.true in omega (arith, h, next-left _ _ _ _ _ _ _ _ _ h _ c.word-target.ensures.value)

pub loop-link-smaller : goal.loop-link-smaller
loop-link-smaller c = let h = spreading_next _ _ _ _ _ _ _ c.requires.0 _ _ _ c.loop-link.invariant _ c.requires.2.1 c.loop-link-test.true in omega (arith, h)

pub loop-link-preserved : goal.loop-link-preserved
loop-link-preserved c = spreading_more _ _ _ _ _ _ _ c.requires.0 _ _ _ c.loop-link.invariant _ _ _ _ c.loop-link-test.true c.word-target.ensures.value c.word-next.ensures.value (c.relax-q.ensures.area_after, c.relax-q.ensures.links_kept)

pub shape_of-area : goal.shape_of-area
shape_of-area c = c.loop-link.invariant.kept.long

pub returns : goal.returns
returns c = let r = spreading_ends _ _ _ _ _ _ _ c.requires.0 _ _ _ c.loop-link.invariant c.loop-link-test.false in record { draining = r.0; links_kept = r.1 }
