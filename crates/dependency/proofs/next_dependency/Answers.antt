use Rattle.dependency.specs.CursorLaws.{no_more}
use Rattle.dependency.proofs.next_dependency.Goals as goal

pub returns : goal.returns
returns c = no_more c.args.counts c.args.nodes.now c.args.operands.now c.args.classes.now c.args.roots.now c.args.c c.requires.1 c.if-c-counts.false c.if-c-counts-2.false
