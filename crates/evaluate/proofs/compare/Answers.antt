use Rattle.words.specs.Sets.{member}
use Rattle.kept_laws.specs.Given.{sized}
use Rattle.evaluate.specs.ChecksLaws.{not-held, not_mine, many_changed, few_changed}
use Rattle.evaluate.proofs.compare.Goals as goal

pub returns-then-kept-ne1 : goal.returns-then-kept-ne1
returns-then-kept-ne1 c = let a = c.args in record { keeps = (λ T. not-held (sized a.counts T) (member 64 a.candidate.now) a.kept.now c.if-kept-ne1.true); spans = tt }

pub returns-then-kept-counts : goal.returns-then-kept-counts
returns-then-kept-counts c = let a = c.args in record { keeps = (λ T. not_mine (sized a.counts T) (member 64 a.candidate.now) a.kept.now c.if-kept-ne1.false c.if-kept-counts.true); spans = tt }

pub returns-then-d-max : goal.returns-then-d-max
returns-then-d-max c = let a = c.args in record { keeps = (λ T. many_changed (sized a.counts T) (member 64 a.candidate.now) a.kept.now _ _ c.if-kept-ne1.false c.if-kept-counts.false (c.difference-d.ensures.changes_value T) c.max.ensures c.if-d-max.true); spans = tt }

pub returns : goal.returns
returns c =
    let a = c.args in
    record {
      keeps = λ T. few_changed (sized a.counts T) (member 64 a.candidate.now) a.kept.now _ _ c.if-kept-ne1.false c.if-kept-counts.false (c.difference-d.ensures.changes_value T) c.max.ensures c.if-d-max.false;
      spans = (c.difference-d.ensures.marked, c.difference-d.ensures.between);
    }
