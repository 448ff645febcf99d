use mathlib.Core.Path.{◌≡◌}
use lib.ListN.{length}
use Rattle.kept.specs.Tables.{Tables}
use Rattle.kept_laws.specs.Given.{sized}
use Rattle.start.specs.EnterLaws.{Entering}
use Rattle.start.proofs.enter_all.Given as goal

abbrev pub invariant-loop-word : goal.invariant-loop-word
invariant-loop-word l = ((T : Tables) → Entering (sized l.counts T) l.initial.kept l.list l.kept l.word-index) × (length l.kept ≡ length l.initial.kept)
