use native.Mathlib.Omega.{arith}
use Rattle.kept_laws.specs.Given.{walked}
use Rattle.step.specs.StepLaws.{step_lost, step-none, step_stray, step_taken}
use Rattle.step.proofs.step.Goals as goal

pub returns-then-k-counts-2 : goal.returns-then-k-counts-2
returns-then-k-counts-2 c = let g = c.args in λ T. step-none (walked g.counts g.made g.nodes.now g.operands.now g.producers.now g.readers.now T) g.kept.now _ c.word-k.ensures.value c.if-k-counts-2.true

pub returns-then-k-counts : goal.returns-then-k-counts
returns-then-k-counts c = let g = c.args in λ T. step_lost (walked g.counts g.made g.nodes.now g.operands.now g.producers.now g.readers.now T) g.kept.now _ c.word-k.ensures.value (omega (arith, c.if-k-counts.true, c.if-k-counts-2.false))

pub returns-in_default : goal.returns-in_default
returns-in_default c = let g = c.args in λ T. step_stray (walked g.counts g.made g.nodes.now g.operands.now g.producers.now g.readers.now T) g.kept.now _ c.word-k.ensures.value c.requires.kept_long c.if-k-counts.false _ c.node_truth-seen.ensures c.in_default.is

pub returns : goal.returns
returns c = let g = c.args in λ T. step_taken (walked g.counts g.made g.nodes.now g.operands.now g.producers.now g.readers.now T) g.kept.now _ c.word-k.ensures.value c.requires.kept_long c.if-k-counts.false _ c.node_truth-seen.ensures _ c.in-Some.is _ _ (c.take.ensures (walked g.counts g.made g.nodes.now g.operands.now g.producers.now g.readers.now T))
