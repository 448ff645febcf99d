use borrow.Author.Rules.{rules}
use native.Mathlib.Omega.{arith}
use mathlib.Core.Path.{◌≡◌}
use lib.ListN.{length-set}
use Rattle.compile.specs.ClassWord.{classes_none, classes_more}
use Rattle.compile.proofs.classify.Goals as goal

pub loop-k-init : goal.loop-k-init
loop-k-init c = (search rules, search rules, search rules, classes_none _ _ _)

pub classify_node-class-requires : goal.classify_node-class-requires
classify_node-class-requires c = (omega (arith, c.loop-k.invariant.1), omega (arith, c.loop-k.invariant.2, c.requires.0), c.requires.1)

pub overflow_cast-classes : goal.overflow_cast-classes
overflow_cast-classes c = omega (arith, c.classify_node-class.ensures.upper_bound)

pub offset_bounds-classes-k : goal.offset_bounds-classes-k
offset_bounds-classes-k c = omega (arith, c.loop-k.invariant.1, c.loop-k.invariant.2, c.requires.0)

pub bounds-classes-k : goal.bounds-classes-k
bounds-classes-k c = omega (arith, c.loop-k.invariant.1, c.loop-k.invariant.2, c.requires.0)

pub loop-k-preserved : goal.loop-k-preserved
loop-k-preserved c = (search rules, search rules, simp length-set c.loop-k.invariant.2, classes_more _ _ _ _ _ _ _ _ (c.requires.1.formed _ (omega (arith, c.loop-k.invariant.1))) (omega (arith, c.loop-k.invariant.1, c.requires.0)) c.loop-k.invariant.3 c.classify_node-class.ensures.value)

pub shape_of-classes : goal.shape_of-classes
shape_of-classes c = c.loop-k.invariant.2

pub returns : goal.returns
returns c = let e : c.loop-k.k ≡ c.args.counts.nodes = omega (arith, c.loop-k.invariant.1) in rw e at c.loop-k.invariant.3
