use native.Mathlib.Omega.{arith}
use mathlib.Core.Path.{sym, ap, ◌∙◌}
use lib.ListN.{length}
use Rattle.plan.specs.Prepared.{prepared_front, length-class_words}
use Rattle.plan.proofs.prepare.Goals as goal

pub slice_bounds-roots_supported-end-2 : goal.slice_bounds-roots_supported-end-2
slice_bounds-roots_supported-end-2 c = sym (ap length (prepared_front c.args.counts c.args.nodes.now c.args.operands.now c.args.area.now c.classify.new.classes c.classify.ensures) ∙ length-class_words c.args.nodes.now c.args.operands.now c.args.counts.nodes)

pub roots_supported-requires : goal.roots_supported-requires
roots_supported-requires c = (rw (prepared_front c.args.counts c.args.nodes.now c.args.operands.now c.args.area.now c.classify.new.classes c.classify.ensures) (rw (length-class_words c.args.nodes.now c.args.operands.now c.args.counts.nodes) (omega arith)), c.requires.1, c.requires.2)

pub returns : goal.returns
returns c = (rw (prepared_front c.args.counts c.args.nodes.now c.args.operands.now c.args.area.now c.classify.new.classes c.classify.ensures) at c.roots_supported.ensures, c.classify.ensures)
