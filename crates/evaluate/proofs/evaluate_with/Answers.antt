use Rattle.words.specs.Sets.{member}
use Rattle.update.specs.Results.{lent}
use Rattle.evaluate.specs.ChecksLaws.{spans_few, kept_few, kept_fresh, result_kept, result_fresh}
use native.Mathlib.Omega.{arith}
use Rattle.evaluate.proofs.evaluate_with.Goals as goal

pub update-requires : goal.update-requires
update-requires c = let p = c.requires in
    let s = spans_few c.args.counts c.args.kept.now c.args.candidate.now _ _ _ c.compare.ensures.spans c.in-Some.is in (
      record {
        limited = p.0.limited;
        few = p.3;
        nodes_long = p.0.nodes_long;
        operands_long = p.0.operands_long;
        producers_long = p.0.producers_long;
        readers_long = p.1;
        kept_long = p.0.kept_long;
      },
      p.0.roots_long,
      p.0.candidate_long,
      p.2,
      s.0,
      omega (arith, p.4, c.compare.auto.marks),
      omega (arith, p.5, c.compare.auto.marks),
      s.1,
    )

pub returns-in-Some : goal.returns-in-Some
returns-in-Some c = let a = c.args in
    λ T. result_kept (lent a.counts a.made a.nodes.now a.operands.now a.roots.now a.producers.now a.readers.now T) (member 64 a.candidate.now) a.kept.now c.requires.3 c.update.result _ (kept_few (lent a.counts a.made a.nodes.now a.operands.now a.roots.now a.producers.now a.readers.now T) (member 64 a.candidate.now) a.kept.now _ (c.compare.ensures.keeps (lent a.counts a.made a.nodes.now a.operands.now a.roots.now a.producers.now a.readers.now T)) _ c.in-Some.is) (c.update.ensures (lent a.counts a.made a.nodes.now a.operands.now a.roots.now a.producers.now a.readers.now T))

pub returns-in-None : goal.returns-in-None
returns-in-None c = let a = c.args in
    λ T. result_fresh (lent a.counts a.made a.nodes.now a.operands.now a.roots.now a.producers.now a.readers.now T) (member 64 a.candidate.now) a.kept.now c.requires.3 c.fresh.result _ (kept_fresh (lent a.counts a.made a.nodes.now a.operands.now a.roots.now a.producers.now a.readers.now T) (member 64 a.candidate.now) a.kept.now _ (c.compare.ensures.keeps (lent a.counts a.made a.nodes.now a.operands.now a.roots.now a.producers.now a.readers.now T)) c.in-None.is) (c.fresh.ensures (lent a.counts a.made a.nodes.now a.operands.now a.roots.now a.producers.now a.readers.now T))
