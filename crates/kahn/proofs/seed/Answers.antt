use Rattle.kahn.proofs.Steps.{seeding_none, seeding_more}
use Rattle.kahn.proofs.seed.Goals as goal

pub loop-v-init : goal.loop-v-init
loop-v-init c = seeding_none _ _

pub loop-v-preserved : goal.loop-v-preserved
loop-v-preserved c = seeding_more _ _ _ _ _ _ _ c.loop-v.invariant c.loop-v-test.true c.requires.1 c.push-q.ensures
