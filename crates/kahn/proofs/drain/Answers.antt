use native.Mathlib.Omega.{arith}
use Rattle.kahn.proofs.Kept.{sized-kept}
use Rattle.kahn.proofs.Queue.{emptying_starts, emptying_more, emptying_ends}
use Rattle.kahn.proofs.drain.Goals as goal

pub loop-c-init : goal.loop-c-init
loop-c-init c = emptying_starts _ _ _ _ _

pub spread-q-requires : goal.spread-q-requires
spread-q-requires c = (sized-kept _ _ _ _ c.requires.0 c.loop-c.invariant.kept, c.loop-c-test.true, (c.requires.1.0, c.loop-c.invariant.drains _ c.requires.1.1))

pub overflow_add-c : goal.overflow_add-c
overflow_add-c c = omega (arith, c.requires.0.vertices, (c.loop-c.invariant.drains _ c.requires.1.1).fits)

pub loop-c-smaller : goal.loop-c-smaller
loop-c-smaller c = omega (arith, (c.loop-c.invariant.drains _ c.requires.1.1).fits)

pub loop-c-preserved : goal.loop-c-preserved
loop-c-preserved c = emptying_more _ _ _ _ _ _ _ _ c.loop-c.invariant _ _ (c.spread-q.ensures.draining, c.spread-q.ensures.links_kept)

pub shape_of-area : goal.shape_of-area
shape_of-area c = c.loop-c.invariant.kept.long

pub returns : goal.returns
returns c = let r = emptying_ends _ _ _ _ _ _ _ _ c.loop-c.invariant c.requires.0 c.loop-c-test.false in record { draining = r.0; links_kept = r.1 }
