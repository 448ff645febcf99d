use Rattle.kept_laws.specs.Given.{sized}
use Rattle.retained.specs.PresenceLaws.{lacking_in, lacking_out, presence_is}
use Rattle.retained.proofs.presence.Goals as goal
use Rattle.retained.proofs.presence.Goals.{then-x, else-x}

pub returns : goal.returns
returns c =
    let g = c.args in λ T.
    presence_is (sized g.counts T) g.kept.now c.requires.2 g.a c.requires.1 g.x _ _ _
    (elim c.if-x.branch [
      | then-x w ↦ lacking_in (sized g.counts T) g.kept.now c.requires.2 g.a c.requires.1 g.x _ w.if-x.true (rw c.support_at.ensures at w.lacking-is)
      | else-x w ↦ lacking_out (sized g.counts T) g.kept.now c.requires.2 g.a c.requires.1 g.x _ w.if-x.false w.lacking-is
    ])
    (c.missing.ensures T)
