-- Unpacking a word gives its fields back, so no two answers share one.
-- Assumes nothing.
use Rattle.std.specs.Prelude.{ℕ, ◌+◌, ◌*◌, ◌/◌, ◌<◌, ◌≡◌, refl, false, eqb, Result, Ok, Err}
use Rattle.std.proofs.Common.{arith, ap, sym, ◌∙◌, ne_eqb}
use Rattle.std.proofs.Math.Arith.{digits_div, digits_mod}
use Rattle.theory.specs.Refusal.{told, number_of}
use Rattle.theory.specs.declared.Refusal.{Refusal}
use Rattle.theory.specs.declared.Refusal.TheVariants.{BadKind, CutRecord, PastLimit, BadAtom, BadOperand, NoOperands, BadRoot, NotRising, ShortBuffer, UnsupportedRoot, UnsupportedBody, PositiveCycle, RankShape, RankOrder, ForeignStamp, StrayBit, BadEntry}
use Rattle.kept.specs.Verdict.{Verdict, not_model, residual, stable}
use Rattle.kept.specs.Outcome.{Answer, accepted, refused}
use Rattle.answers.specs.Word.{word, number_in, place_in, body_in, place_of, body_of, refusal_word, planning_word, verdict_number, named, check_word}
use Rattle.answers.specs.Fits.{RefusalFits, PlanningFits, AnswerFits}
use Rattle.answers.specs.Unpacked.{refusal_by, refusal_in, planning_in, verdict_by, answer_in}

-- ---- the three fields

module _ (n p b : ℕ) (l : n < 256) where
  pub number_back : number_in (word n p b) ≡ n
  unfolding word
  number_back = digits_mod (b * 4294967296 + p) l

  above : word n p b / 256 ≡ b * 4294967296 + p
  unfolding word
  above = digits_div (b * 4294967296 + p) l

  module _ (m : p < 4294967296) where
    pub place_back : place_in (word n p b) ≡ p
    place_back = rw above (digits_mod b m)

    pub body_back : body_in (word n p b) ≡ b
    body_back = rw above (digits_div b m)

-- ---- refusals

pub number_fits : (r : Refusal) → (0 < number_of r) × (number_of r < 256)
unfolding told
number_fits (BadKind place) = (omega arith, omega arith)
number_fits (CutRecord place) = (omega arith, omega arith)
number_fits (PastLimit place) = (omega arith, omega arith)
number_fits (BadAtom place) = (omega arith, omega arith)
number_fits (BadOperand place) = (omega arith, omega arith)
number_fits (NoOperands place) = (omega arith, omega arith)
number_fits (BadRoot place) = (omega arith, omega arith)
number_fits (NotRising place) = (omega arith, omega arith)
number_fits (ShortBuffer buffer) = (omega arith, omega arith)
number_fits (UnsupportedRoot root) = (omega arith, omega arith)
number_fits (UnsupportedBody root body) = (omega arith, omega arith)
number_fits (PositiveCycle atom) = (omega arith, omega arith)
number_fits RankShape = (omega arith, omega arith)
number_fits (RankOrder head) = (omega arith, omega arith)
number_fits ForeignStamp = (omega arith, omega arith)
number_fits (StrayBit bit) = (omega arith, omega arith)
number_fits (BadEntry node) = (omega arith, omega arith)

refusal_by_lem : (r : Refusal) → refusal_by (number_of r) (place_of r) (body_of r) ≡ r
unfolding told
refusal_by_lem (BadKind place) = refl
refusal_by_lem (CutRecord place) = refl
refusal_by_lem (PastLimit place) = refl
refusal_by_lem (BadAtom place) = refl
refusal_by_lem (BadOperand place) = refl
refusal_by_lem (NoOperands place) = refl
refusal_by_lem (BadRoot place) = refl
refusal_by_lem (NotRising place) = refl
refusal_by_lem (ShortBuffer buffer) = refl
refusal_by_lem (UnsupportedRoot root) = refl
refusal_by_lem (UnsupportedBody root body) = refl
refusal_by_lem (PositiveCycle atom) = refl
refusal_by_lem RankShape = refl
refusal_by_lem (RankOrder head) = refl
refusal_by_lem ForeignStamp = refl
refusal_by_lem (StrayBit bit) = refl
refusal_by_lem (BadEntry node) = refl

module _ (r : Refusal) (f : RefusalFits r) where
  refusal_number : number_in (refusal_word r) ≡ number_of r
  unfolding refusal_word
  refusal_number = number_back (number_of r) (place_of r) (body_of r) (number_fits r).1

  pub refusal_back : refusal_in (refusal_word r) ≡ r
  unfolding refusal_word
  refusal_back =
      rw (number_back (number_of r) (place_of r) (body_of r) (number_fits r).1, place_back (number_of r) (place_of r) (body_of r) (number_fits r).1 f.place, body_back (number_of r) (place_of r) (body_of r) (number_fits r).1 f.place)
      (refusal_by_lem r)

  -- it is not taken for another answer
  pub refusal_told : eqb (number_in (refusal_word r)) 0 ≡ false
  refusal_told = ne_eqb (number_in (refusal_word r)) 0 (λ e. omega (arith, refusal_number, (number_fits r).0, e))

  refused_back : answer_in (refusal_word r) ≡ refused r
  unfolding answer_in
  refused_back = rw (refusal_told, refusal_back)

-- ---- the answers

pub planning_back : (a : Result ℕ Refusal) → PlanningFits a → planning_in (planning_word a) ≡ a
unfolding planning_in planning_word
planning_back (Ok p) l = rw (number_back 0 p 0 (omega arith), place_back 0 p 0 (omega arith) l)
planning_back (Err r) f = rw (refusal_told r f, refusal_back r f)

module _ (v : Verdict) (n : ℕ) (l : named v < 16777216) where
  verdict_fits : verdict_number v < 256
  verdict_fits = go v
    where
      go : (v : Verdict) → verdict_number v < 256
      go stable = omega arith
      go (not_model root) = omega arith
      go (residual atom) = omega arith

  verdict_by_lem : verdict_by (verdict_number v) (named v) ≡ v
  verdict_by_lem = go v
    where
      go : (v : Verdict) → verdict_by (verdict_number v) (named v) ≡ v
      go stable = refl
      go (not_model root) = refl
      go (residual atom) = refl

  pub verdict_place : named v * 256 + verdict_number v < 4294967296
  verdict_place = omega (arith, verdict_fits)

  verdict_back : answer_in (word 0 (named v * 256 + verdict_number v) n) ≡ accepted v n
  unfolding answer_in
  verdict_back =
      rw (
        number_back 0 (named v * 256 + verdict_number v) n (omega arith),
        place_back 0 (named v * 256 + verdict_number v) n (omega arith) verdict_place,
        body_back 0 (named v * 256 + verdict_number v) n (omega arith) verdict_place,
        digits_mod (named v) verdict_fits,
        digits_div (named v) verdict_fits,
        verdict_by_lem,
      )

pub answer_back : (a : Answer) → AnswerFits a → answer_in (check_word a) ≡ a
unfolding check_word
answer_back (accepted v n) f = verdict_back v n f.0
answer_back (refused r) f = refused_back r f

-- no two answers share a word
pub planning-only : (a b : Result ℕ Refusal) → PlanningFits a → PlanningFits b → planning_word a ≡ planning_word b → a ≡ b
planning-only a b f g e = sym (planning_back a f) ∙ ap planning_in e ∙ planning_back b g

pub answer_only : (a b : Answer) → AnswerFits a → AnswerFits b → check_word a ≡ check_word b → a ≡ b
answer_only a b f g e = sym (answer_back a f) ∙ ap answer_in e ∙ answer_back b g
