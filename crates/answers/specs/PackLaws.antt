-- Words made case by case, and why each number fits.
-- Assumes nothing.
use Rattle.std.specs.Prelude.{ℕ, ◌+◌, ◌*◌, ◌<◌, ◌≡◌, refl, List, get_or, Option, Some, None, unwrap_or, Result, Ok, Err}
use Rattle.std.proofs.Common.{arith, ap, sym, ◌∙◌}
use Rattle.theory.specs.Refusal.{told, number_of}
use Rattle.theory.specs.declared.Refusal.{Refusal}
use Rattle.kept.specs.Outcome.{accepted}
use Rattle.verdict.specs.Told.{verdict_as}
use Rattle.verdict.specs.declared.Verdict.{Verdict}
use Rattle.verdict.specs.declared.Verdict.TheVariants.{NotModel, Residual, Stable}
use Rattle.update.specs.Results.{Checked, answer_of}
use Rattle.update.specs.declared.Accepted.{Accepted}
use Rattle.text.specs.Lines.{told_by, told_of}
use Rattle.text.specs.declared.Told.{Told}
use Rattle.answers.specs.Word.{word, place_of, body_of, refusal_word, planning_word, check_word}
use Rattle.answers.specs.Fits.{RefusalFits, PlanningFits, AnswerFits}
use Rattle.answers.specs.WordLaws.{number_fits}

-- ---- a refusal's numbers

module _ (number place : ℕ) where
  number_by : (body : Option ℕ) → get_or (told_by number place body) 0 0 ≡ number
  number_by None = refl
  number_by (Some b) = refl

  place_by : (body : Option ℕ) → get_or (told_by number place body) 1 0 ≡ place
  place_by None = refl
  place_by (Some b) = refl

  -- 0 if there is none
  body_by : (body : Option ℕ) → get_or (told_by number place body) 2 0 ≡ unwrap_or body 0
  body_by None = refl
  body_by (Some b) = refl

-- what packing asks of its three numbers
abbrev pub Packs : ℕ → ℕ → ℕ → Type 0
Packs number place body = (number < 256) × (place < 4294967296) × (body < 16777216)

module _ (r : Refusal) (t : Told) (e : told_of t ≡ told r) where
  number_is : t.number ≡ number_of r
  number_is = sym (number_by t.number t.place t.body) ∙ ap (λ (ns : List ℕ). get_or ns 0 0) e

  place_is : t.place ≡ place_of r
  place_is = sym (place_by t.number t.place t.body) ∙ ap (λ (ns : List ℕ). get_or ns 1 0) e

  body_is : unwrap_or t.body 0 ≡ body_of r
  body_is = sym (body_by t.number t.place t.body) ∙ ap (λ (ns : List ℕ). get_or ns 2 0) e

  pub told_fit : RefusalFits r → Packs t.number t.place (unwrap_or t.body 0)
  told_fit f = (omega (arith, number_is, (number_fits r).1), omega (arith, place_is, f.place), omega (arith, body_is, f.body))

  pub told_packed : word t.number t.place (unwrap_or t.body 0) ≡ refusal_word r
  unfolding refusal_word
  told_packed = rw (number_is, place_is, body_is)

-- ---- a planning call

module _ (a : Result ℕ Refusal) where
  pub planned_fits : (p : ℕ) → a ≡ Ok p → PlanningFits a → p < 4294967296
  planned_fits p e f = rw e at f

  pub planned-packed : (p : ℕ) → a ≡ Ok p → word 0 p 0 ≡ planning_word a
  unfolding planning_word
  planned-packed p e = rw e

  pub refused_fits : (r : Refusal) → a ≡ Err r → PlanningFits a → RefusalFits r
  refused_fits r e f = rw e at f

  pub refused_packed : (r : Refusal) → a ≡ Err r → refusal_word r ≡ planning_word a
  unfolding planning_word
  refused_packed r e = rw e

-- ---- a check

module _ (v : Verdict) (n : ℕ) (f : AnswerFits (accepted (verdict_as v) n)) where
  pub visited_fit : n < 16777216
  visited_fit = f.1

  pub root_fits : (root : ℕ) → v ≡ NotModel root → root < 16777216
  root_fits root e = rw e at f.0

  pub atom_fits : (atom : ℕ) → v ≡ Residual atom → atom < 16777216
  atom_fits atom e = rw e at f.0

module _ (v : Verdict) (n : ℕ) where
  pub stable_packed : v ≡ Stable → word 0 0 n ≡ check_word (accepted (verdict_as v) n)
  unfolding check_word
  stable_packed e = rw e

  pub not_model_packed : (root : ℕ) → v ≡ NotModel root → word 0 (root * 256 + 1) n ≡ check_word (accepted (verdict_as v) n)
  unfolding check_word
  not_model_packed root e = rw e

  pub residual_packed : (atom : ℕ) → v ≡ Residual atom → word 0 (atom * 256 + 2) n ≡ check_word (accepted (verdict_as v) n)
  unfolding check_word
  residual_packed atom e = rw e

module _ (c : Checked) where
  pub accepted_fits : (a : Accepted) → c ≡ Ok a → AnswerFits (answer_of c) → AnswerFits (accepted (verdict_as a.verdict) a.visited)
  accepted_fits a e f = rw e at f

  pub check_refused_fits : (r : Refusal) → c ≡ Err r → AnswerFits (answer_of c) → RefusalFits r
  check_refused_fits r e f = rw e at f

  pub accepted_packed : (a : Accepted) → c ≡ Ok a → check_word (accepted (verdict_as a.verdict) a.visited) ≡ check_word (answer_of c)
  accepted_packed a e = rw e

  pub check_refused_packed : (r : Refusal) → c ≡ Err r → refusal_word r ≡ check_word (answer_of c)
  unfolding check_word
  check_refused_packed r e = rw e
