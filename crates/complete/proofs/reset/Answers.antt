use Rattle.complete.specs.ResetLaws.{reset_laid}
use Rattle.kept_laws.specs.Given.{sized}
use Rattle.complete.proofs.reset.Goals as goal

pub returns : goal.returns
returns c = λ T. reset_laid (sized c.args.counts T) c.args.kept.now c.requires.2 c.args.candidate.now _ _ _ (c.lay_header.ensures T) (c.empty.ensures T) (c.lay_candidate.ensures T)
