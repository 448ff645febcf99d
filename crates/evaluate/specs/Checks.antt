-- What `check` is lent and leaves, as the definitions have it.
-- Assumes nothing.
use Rattle.std.specs.Prelude.{ℕ, ◌*◌, ◌≤◌, ◌≡◌, Bool, true, false, List, ◌++◌, drop, replicate, Option, Some, None, Ok, Err}
use Rattle.theory.specs.Limits.{Limited}
use Rattle.theory.specs.declared.Counts.{Counts}
use Rattle.kept.specs.SetOf.{words64}
use Rattle.kept.specs.Tables.{Tables}
use Rattle.kept.specs.Candidate.{Candidate}
use Rattle.kept.specs.Outcome.{Outcome}
use Rattle.kept_laws.specs.Given.{used_by}
use Rattle.difference.specs.Marks.{Marked, Between}
use Rattle.difference.specs.declared.Differing.{Differing}
use Rattle.update.specs.Results.{Checked, answer_of}
use Rattle.evaluate.specs.declared.Plan.{Plan}

-- the slices are as long as the counts say
pub record Lent (t : Counts) (candidate nodes operands roots producers kept : ℕ) : Type 0 where
  pub limited : Limited t
  pub candidate_long : candidate ≡ words64 t.atoms
  pub nodes_long : 3 * t.nodes ≤ nodes
  pub operands_long : t.operands ≤ operands
  pub roots_long : t.roots ≤ roots
  pub producers_long : 4 * t.roots ≤ producers
  pub kept_long : used_by t ≤ kept

-- whether the check is kept
abbrev pub keeps_by : Option Differing → Bool
keeps_by (Some d) = true
keeps_by None = false

-- then the pairs that differ are marked, and lie between these
abbrev pub Spans : Counts → List ℕ → List ℕ → List ℕ → Option Differing → Type 0
Spans t kept new marks (Some d) = Marked t kept new marks × Between t kept new d.first d.end
Spans t kept new marks None = Unit {0}

abbrev pub tables_of : Counts → Plan → List ℕ → List ℕ → List ℕ → List ℕ → List ℕ → Tables
tables_of t plan nodes operands roots producers readers =
    record { counts = t; plan = plan.stamp; made = plan.producers; nodes = nodes; operands = operands; roots = roots; producers = producers; readers = readers }

abbrev pub candidate_of : ℕ → List ℕ → Candidate
candidate_of stamp words = record { stamp = stamp; words = words }

-- an answer and the words of the kept evaluation after it
abbrev pub outcome_of : Checked → List ℕ → Outcome
outcome_of r words = record { answer = answer_of r; words = words }

-- the words once refusal 17 has cleared the first n
unfoldable pub settled : ℕ → Checked → List ℕ → List ℕ
settled n (Ok a) ws = ws
settled n (Err r) ws = replicate n 0 ++ drop n ws
