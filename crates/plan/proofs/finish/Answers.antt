use Rattle.plan.specs.Written.{written-planned}
use Rattle.plan.proofs.finish.Goals as goal

pub build-requires : goal.build-requires
build-requires c = (written-planned c.args.counts c.args.nodes.now c.args.operands.now c.args.classes.now c.args.roots.now c.args.producers.now c.requires.limited.0 c.requires.limited.1 c.requires.limited.2 c.requires.roots_in_bounds.0 _ c.extract-p.new.table c.extract-p.ensures.value c.extract-p.auto.table c.extract-p.ensures.table_after, c.requires.roots_in_bounds.2)

pub returns : goal.returns
returns c = record { number = c.extract-p.ensures.value; producers = c.extract-p.ensures.table_after; ranks = c.copy.ensures; readers = c.build.ensures }
