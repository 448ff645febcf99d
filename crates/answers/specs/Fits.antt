-- Answers whose numbers fit the fields of their word. Every outcome's answer does (proofs/PlanFits, CheckFits).
-- Assumes nothing.
use Rattle.std.specs.Prelude.{ℕ, ◌<◌, Result, Ok, Err}
use Rattle.theory.specs.declared.Refusal.{Refusal}
use Rattle.kept.specs.Outcome.{Answer, accepted, refused}
use Rattle.answers.specs.Word.{place_of, body_of, named}

pub record RefusalFits (r : Refusal) : Type 0 where
  pub place : place_of r < 4294967296
  pub body : body_of r < 16777216

abbrev pub PlanningFits : Result ℕ Refusal → Type 0
PlanningFits (Ok producers) = producers < 4294967296
PlanningFits (Err r) = RefusalFits r

abbrev pub AnswerFits : Answer → Type 0
AnswerFits (accepted v n) = (named v < 16777216) × (n < 16777216)
AnswerFits (refused r) = RefusalFits r
