use Rattle.step.specs.TurnLaws.{Telling}
use Rattle.kept_laws.specs.Given.{produced}
use Rattle.kept.specs.Tables.{Tables}
use mathlib.Core.Path.{◌≡◌}
use lib.ListN.{length}
use Rattle.step.proofs.update_readers.Given as goal

abbrev pub invariant-loop-word : goal.invariant-loop-word
invariant-loop-word l = (length l.kept ≡ length l.initial.kept) × ((T : Tables) → Telling (produced l.counts l.made l.producers T) l.initial.kept l.k l.holds l.list l.kept l.word-index)
