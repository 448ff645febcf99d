use Rattle.kept_laws.specs.Given.{sized}
use Rattle.complete.specs.ResetLaws.{halves_laid}
use Rattle.complete.proofs.lay_candidate.Goals as goal

pub returns : goal.returns
returns c = let g = c.args in λ T. rw (c.candidate_at-at.ensures, c.missing_at-end.ensures) (halves_laid (sized g.counts T) g.kept.now c.requires.2 g.candidate.now c.lay_halves.new.part (rw (c.candidate_at-at.ensures, c.missing_at-end.ensures) at c.lay_halves.ensures))
