use native.Mathlib.Omega.{arith}
use Rattle.kept_laws.specs.Within.{header_within, missing_within, atoms_small}
use Rattle.kept_laws.specs.Given.{sized}
use Rattle.retained.specs.MemberLaws.{missing_wrote}
use Rattle.retained.proofs.missing.Goals as goal

pub turn-requires : goal.turn-requires
turn-requires c = rw c.missing_at-at.ensures (missing_within c.args.counts _ c.requires.2 _ c.requires.1, header_within c.args.counts _ c.requires.2 2 (omega arith), atoms_small c.args.counts c.requires.0)

pub returns : goal.returns
returns c = λ T. missing_wrote (sized c.args.counts T) c.args.kept.now c.requires.2 c.args.a c.args.lacking c.requires.1 _ _ (rw c.missing_at-at.ensures at c.turn.ensures)
