-- What the user of a public call sees of its answer: document 01's numbers of a refusal, or what was accepted.
-- Assumes nothing.
use Rattle.std.specs.Prelude.{ℕ, List, replicate, Result, Ok, Err}
use Rattle.theory.specs.declared.Counts.{Counts}
use Rattle.theory.specs.Refusal.{told}
use Rattle.record.specs.File.{theory_file}
use Rattle.load.specs.Tables.{tables}
use Rattle.load.specs.Loading.{loading}
use Rattle.plan.specs.Outcome.{plan_outcome, certify_outcome}
use Rattle.kept.specs.Tables.{Tables}
use Rattle.kept.specs.Candidate.{Candidate}
use Rattle.kept.specs.Verdict.{Verdict}
use Rattle.kept.specs.Outcome as checking
use Rattle.theory.specs.declared.Refusal.{Refusal}
use Rattle.record.specs.declared.Summary.{Summary}

-- number, place and, for 11, body; the producers of a plan; the verdict and the nodes gone over
pub data Answer : Type 0 where
  refused : List ℕ → Answer
  loaded : Answer
  planned : ℕ → Answer
  checked : Verdict → ℕ → Answer

abbrev pub zeros : ℕ → List ℕ
zeros n = replicate n 0

-- ---- load

abbrev pub loaded_as : Result Summary Refusal → Answer
loaded_as (Ok s) = loaded
loaded_as (Err r) = refused (told r)

-- of a file, into tables of so many words
abbrev pub load : List ℕ → ℕ → ℕ → ℕ → Answer
load file nodes operands roots = loaded_as (loading (theory_file file) (tables (zeros nodes) (zeros operands) (zeros roots))).answer

-- ---- plan and certify

pub record Theory : Type 0 where
  pub counts : Counts
  pub nodes : List ℕ
  pub operands : List ℕ
  pub roots : List ℕ

-- how many words buffers 4, 5, 6 and 8 have
pub record Room : Type 0 where
  pub producers : ℕ
  pub ranks : ℕ
  pub readers : ℕ
  pub work : ℕ

abbrev pub planned_as : Result ℕ Refusal → Answer
planned_as (Ok p) = planned p
planned_as (Err r) = refused (told r)

abbrev pub plan : Theory → Room → Answer
plan t b = planned_as (plan_outcome t.counts t.nodes t.operands t.roots (zeros b.producers) (zeros b.ranks) (zeros b.readers) (zeros b.work)).answer

abbrev pub certify : Theory → List ℕ → Room → Answer
certify t proposed b = planned_as (certify_outcome t.counts t.nodes t.operands t.roots proposed (zeros b.producers) (zeros b.ranks) (zeros b.readers) (zeros b.work)).answer

-- ---- check

abbrev pub checked_as : checking.Answer → Answer
checked_as (checking.accepted v n) = checked v n
checked_as (checking.refused r) = refused (told r)

-- with the floor and the divisor of document 01
abbrev pub check : Tables → Candidate → List ℕ → Answer
check T c kept = checked_as (checking.outcome 64 8 T c kept).answer
