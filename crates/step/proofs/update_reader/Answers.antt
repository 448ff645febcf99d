use native.Mathlib.Omega.{arith}
use mathlib.Core.Path.{refl}
use Rattle.kept_laws.specs.Given.{produced}
use Rattle.step.specs.ReaderLaws.{small_read, node_below, node_told, head_past, producer-told, root_told, no_reader}
use Rattle.step.proofs.update_reader.Goals as goal

pub returns-then-m-k : goal.returns-then-m-k
returns-then-m-k c = λ T. node_below (produced c.args.counts c.args.made c.args.producers.now T) c.args.kept.now c.args.k c.args.holds _ _ refl _ (small_read c.args.word c.args.counts.nodes c.if-word-counts.true c.requires.0.nodes) c.if-m-k.true

pub returns-then-word-counts : goal.returns-then-word-counts
returns-then-word-counts c = λ T. node_told (produced c.args.counts c.args.made c.args.producers.now T) c.args.kept.now c.args.k c.args.holds _ _ refl _ (small_read c.args.word c.args.counts.nodes c.if-word-counts.true c.requires.0.nodes) c.if-m-k.false c.if-word-counts.true _ _ (c.queue.ensures (produced c.args.counts c.args.made c.args.producers.now T))

pub returns-then-a-counts : goal.returns-then-a-counts
returns-then-a-counts c = λ T. head_past (produced c.args.counts c.args.made c.args.producers.now T) c.args.kept.now c.args.k c.args.holds _ _ refl _ _ (c.producer_index-p.ensures.0 (omega (arith, c.if-p-made.true, c.requires.1, c.requires.0.roots))) c.if-p-made.true c.word-a.ensures.value c.if-a-counts.true

pub returns-then-p-made : goal.returns-then-p-made
returns-then-p-made c = λ T. producer-told (produced c.args.counts c.args.made c.args.producers.now T) c.args.kept.now c.args.k c.args.holds _ _ refl _ _ (c.producer_index-p.ensures.0 (omega (arith, c.if-p-made.true, c.requires.1, c.requires.0.roots))) c.if-p-made.true c.word-a.ensures.value c.if-a-counts.false _ _ (c.support.ensures (produced c.args.counts c.args.made c.args.producers.now T))

pub returns-then-r-counts : goal.returns-then-r-counts
returns-then-r-counts c = λ T. no_reader (produced c.args.counts c.args.made c.args.producers.now T) c.args.kept.now c.args.k c.args.holds _ _ refl c.args.word _ _ refl c.if-word-counts.false c.producer_index-p.ensures.1 c.if-p-made.false c.root_index-r.ensures.1 c.if-r-counts.true

pub returns : goal.returns
returns c = λ T. root_told (produced c.args.counts c.args.made c.args.producers.now T) c.args.kept.now c.args.k c.args.holds _ _ refl _ (c.root_index-r.ensures.0 (omega (arith, c.if-r-counts.false, c.requires.0.roots))) c.if-r-counts.false _ _ (c.root.ensures (produced c.args.counts c.args.made c.args.producers.now T))
