use Rattle.complete.specs.Branches.{root_stray, root_holds, root_fails}
use Rattle.kept_laws.specs.Given.{rooted}
use Rattle.complete.proofs.lay_root.Goals as goal

pub returns-then-root-counts : goal.returns-then-root-counts
returns-then-root-counts c = λ T. root_stray (rooted c.args.counts c.args.roots.now T) c.args.kept.now c.requires.3 c.args.p c.word-root.result c.word-root.ensures.value c.if-root-counts.true

pub returns-then-holds : goal.returns-then-holds
returns-then-holds c = λ T. root_holds (rooted c.args.counts c.args.roots.now T) c.args.kept.now c.requires.3 c.args.p c.word-root.result c.word-root.ensures.value c.if-root-counts.false _ c.holds.ensures c.if-holds.true

pub returns : goal.returns
returns c = λ T. root_fails (rooted c.args.counts c.args.roots.now T) c.args.kept.now c.requires.3 c.args.p c.word-root.result c.word-root.ensures.value c.if-root-counts.false _ c.holds.ensures c.if-holds.false _ _ (c.root.ensures (rooted c.args.counts c.args.roots.now T))
