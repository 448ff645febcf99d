use mathlib.Core.Path.{◌≡◌, sym, ◌∙◌, refl}
use native.Mathlib.Omega.{arith}
use lib.ListN.{length-set, take-append-drop}
use lib.Seq.{drop-drop}
use Rattle.ranks.specs.Highest.{highest_all, highest_none, class_there, fill_front, fill_back, part-rest}
use Rattle.ranks.proofs.fill_highest.Goals as goal

pub loop-k-init : goal.loop-k-init
loop-k-init c = (refl, refl, highest_none _ _ _ _ _)

pub loop-k-preserved : goal.loop-k-preserved
loop-k-preserved c = (
  simp length-set c.loop-k.invariant.0,
  fill_front c.args.counts c.args.nodes.now c.args.operands.now c.args.ranks.now c.args.area.now c.loop-k.area c.args.v c.loop-k.k (omega arith) c.loop-k.invariant.1 c.loop-k.invariant.2 _,
  fill_back c.args.counts c.args.nodes.now c.args.operands.now c.args.ranks.now c.args.area.now c.loop-k.area c.args.v c.loop-k.k (omega arith) c.loop-k.invariant.1 c.loop-k.invariant.2 _ _ _ _ (c.requires.3.formed _ c.loop-k-test.true) (omega arith) (part-rest c.args.v c.loop-k.area) (class_there c.args.counts c.args.nodes.now c.args.operands.now c.args.ranks.now c.args.area.now c.loop-k.area c.args.v c.loop-k.k (omega arith) c.loop-k.invariant.1 c.loop-k.invariant.2 c.requires.4 c.loop-k-test.true _ c.word-class.ensures.value) c.highest_node-high.ensures.value,
)

pub returns : goal.returns
returns c = let e : c.loop-k.k ≡ c.args.counts.nodes = omega arith in sym (take-append-drop c.args.v c.loop-k.area) ∙ rw (c.loop-k.invariant.1, c.loop-k.invariant.2, e, highest_all, drop-drop)
