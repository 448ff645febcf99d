use Rattle.words.specs.Sets.{member}
use Rattle.update.specs.Results.{lent}
use Rattle.evaluate.specs.ChecksLaws.{result_many}
use Rattle.evaluate.proofs.evaluate.Goals as goal

pub returns-then-made-counts : goal.returns-then-made-counts
returns-then-made-counts c = let a = c.args in λ T. result_many (lent a.counts a.made a.nodes.now a.operands.now a.roots.now a.producers.now a.readers.now T) (member 64 a.candidate.now) a.kept.now c.if-made-counts.true
