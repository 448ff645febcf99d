-- What a check answers and leaves: a result of the definitions.
-- Assumes nothing.
use Rattle.std.specs.Prelude.{ℕ, ◌≡◌, List, Result, Ok, Err}
use Rattle.theory.specs.declared.Counts.{Counts}
use Rattle.kept.specs.Tables.{Tables}
use Rattle.kept.specs.Check as check
use Rattle.kept.specs.Layout.{written}
use Rattle.kept.specs.Outcome.{Answer, accepted, refused}
use Rattle.kept_laws.specs.Wrote.{Beside}
use Rattle.verdict.specs.Told.{verdict_as}
use Rattle.theory.specs.declared.Refusal.{Refusal}
use Rattle.update.specs.declared.Accepted.{Accepted}

-- the tables of these slices, whatever the plan's stamp in T is
abbrev pub lent : Counts → ℕ → List ℕ → List ℕ → List ℕ → List ℕ → List ℕ → Tables → Tables
lent t made nodes operands roots producers readers T =
    record { counts = t; plan = T.plan; made = made; nodes = nodes; operands = operands; roots = roots; producers = producers; readers = readers }

-- what the code answers
abbrev pub Checked : Type 0
Checked = Result Accepted Refusal

abbrev pub answer_of : Checked → Answer
answer_of (Ok a) = accepted (verdict_as a.verdict) a.visited
answer_of (Err r) = refused r

-- the answer that a result gives
abbrev pub answer_in : check.Result → Answer
answer_in (check.accepted v n e) = accepted v n
answer_in (check.refused r) = refused r

-- the words after it: its evaluation is written, or after a 17 anything is in the used words
abbrev pub Leaves : Tables → List ℕ → check.Result → List ℕ → Type 0
Leaves T ws (check.accepted v n e) after = after ≡ written T ws e
Leaves T ws (check.refused r) after = Beside T ws after

abbrev pub Results : Tables → List ℕ → check.Result → Checked → List ℕ → Type 0
Results T ws x r after = (answer_of r ≡ answer_in x) × Leaves T ws x after
