use native.Mathlib.Omega.{arith}
use Rattle.kept_laws.specs.Within.{header_within}
use Rattle.kept_laws.specs.Given.{sized}
use Rattle.retained.specs.MemberLaws.{root_wrote}
use Rattle.retained.proofs.root.Goals as goal

pub turn-requires : goal.turn-requires
turn-requires c = rw c.false_roots_at-at.ensures (omega (arith, c.requires.1, c.requires.2), header_within c.args.counts _ c.requires.2 3 (omega arith), omega (arith, c.requires.0.roots))

pub returns : goal.returns
returns c = λ T. root_wrote (sized c.args.counts T) c.args.kept.now c.requires.2 c.args.p c.args.holds c.requires.1 _ _ (rw c.false_roots_at-at.ensures at c.turn.ensures)
