use mathlib.Core.Path.{sym, ◌∙◌}
use Rattle.kahn.proofs.Kept.{sized-kept}
use Rattle.kahn.proofs.Start.{seeding_kept, draining_starts}
use Rattle.kahn.proofs.Queue.{derived_cycle, derived_ranks_lem}
use Rattle.kahn.proofs.derive.Goals as goal

pub drain-requires : goal.drain-requires
drain-requires c = (sized-kept _ _ _ _ c.requires.0 (seeding_kept _ _ _ _ _ c.seed-seeded.ensures), (c.requires.2.0, draining_starts _ _ _ _ _ _ _ c.requires.0 c.requires.2.1 c.seed-seeded.ensures))

pub returns-in-Some : goal.returns-in-Some
returns-in-Some c = let r = derived_cycle _ _ _ _ _ _ _ _ c.requires.0 c.requires.1 c.seed-seeded.ensures (c.drain.ensures.draining, c.drain.ensures.links_kept) _ (sym c.lowest_left.ensures ∙ c.in-Some.is) in record { area_after = r.0; links_kept = r.1 }

pub returns-in-None : goal.returns-in-None
returns-in-None c = let r = derived_ranks_lem _ _ _ _ _ _ _ _ c.requires.0 c.requires.1 c.seed-seeded.ensures (c.drain.ensures.draining, c.drain.ensures.links_kept) (sym c.lowest_left.ensures ∙ c.in-None.is) in record { area_after = r.0; links_kept = r.1 }
