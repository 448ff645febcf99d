use native.Mathlib.Omega.{arith}
use Rattle.kept_laws.specs.Given.{groups_at, sized}
use Rattle.retained.specs.QueueLaws.{lent_long, group_in}
use Rattle.retained.proofs.next_group.Goals as goal

pub next-requires : goal.next-requires
next-requires c = record {
  from_bound = rw (c.groups_at-at.ensures, lent_long (groups_at c.args.counts) _ c.args.kept.now c.requires.2) (omega (arith, c.requires.1));
  words_bound = rw (c.groups_at-at.ensures, lent_long (groups_at c.args.counts) _ c.args.kept.now c.requires.2) (omega (arith, c.requires.0.nodes));
}

pub returns : goal.returns
returns c = λ T. group_in (sized c.args.counts T) c.args.kept.now c.requires.2 c.args.q _ (rw c.groups_at-at.ensures at c.next.ensures)
