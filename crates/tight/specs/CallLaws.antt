-- A call by its outcome, once its answer is packed.
-- Assumes nothing.
use Rattle.std.specs.Prelude.{ℕ, ◌≡◌, List, Result}
use Rattle.std.proofs.Common.{ap, sym, ◌∙◌, subst}
use Rattle.theory.specs.declared.Counts.{Counts}
use Rattle.plan.specs.Outcome.{Outcome, outcome, plan_outcome, certify_outcome}
use Rattle.kept.specs.Tables.{Tables}
use Rattle.kept.specs.Candidate.{Candidate}
use Rattle.kept.specs.Outcome as checking
use Rattle.evaluate.specs.Checks.{outcome_of}
use Rattle.update.specs.Results.{answer_of}
use Rattle.update.specs.Results.{Checked}
use Rattle.answers.specs.Word.{planning_word, check_word}
use Rattle.answers.specs.Fits.{PlanningFits, AnswerFits}
use Rattle.answers.proofs.PlanFits.{plan_fits, certify_fits}
use Rattle.answers.proofs.CheckFits.{outcome_fits}
use Rattle.tight.specs.Call.{Plans, Checks}
use Rattle.theory.specs.declared.Refusal.{Refusal}

answer_fits : (o : Outcome) (a : Result ℕ Refusal) (ps rs us ws : List ℕ) → outcome a ps rs us ws ≡ o → PlanningFits o.answer → PlanningFits a
answer_fits o a ps rs us ws e f = subst PlanningFits (sym (ap (λ (x : Outcome). x.answer) e)) f

module _ (t : Counts) (nodes operands roots ps rs us ws : List ℕ) (a : Result ℕ Refusal) (xs ys zs vs : List ℕ) where
  pub planned_fits : outcome a xs ys zs vs ≡ plan_outcome t nodes operands roots ps rs us ws → PlanningFits a
  planned_fits e = answer_fits _ a xs ys zs vs e (plan_fits t nodes operands roots ps rs us ws)

  pub certified_fits : (proposed : List ℕ) → outcome a xs ys zs vs ≡ certify_outcome t nodes operands roots proposed ps rs us ws → PlanningFits a
  certified_fits proposed e = answer_fits _ a xs ys zs vs e (certify_fits t nodes operands roots ps rs us ws proposed)

module _ (o : Outcome) (a : Result ℕ Refusal) (ps rs us ws : List ℕ) (e : outcome a ps rs us ws ≡ o) where
  pub plans : (word : ℕ) → word ≡ planning_word a → Plans o word ps rs us ws
  plans word w =
      record {
        word_is = w ∙ ap (λ (x : Outcome). planning_word x.answer) e;
        producers_are = ap (λ (x : Outcome). x.producers) e;
        ranks_are = ap (λ (x : Outcome). x.ranks) e;
        readers_are = ap (λ (x : Outcome). x.readers) e;
        work_is = ap (λ (x : Outcome). x.work) e;
      }

pub checked_fits : (T : Tables) (candidate : Candidate) (words : List ℕ) (c : Checked) (ws : List ℕ) → outcome_of c ws ≡ checking.outcome 64 8 T candidate words → AnswerFits (answer_of c)
checked_fits T candidate words c ws e = subst AnswerFits (sym (ap (λ (x : checking.Outcome). x.answer) e)) (outcome_fits 64 8 T candidate words)

module _ (o : checking.Outcome) (c : Checked) (ws : List ℕ) (e : outcome_of c ws ≡ o) where
  pub checks : (word : ℕ) → word ≡ check_word (answer_of c) → Checks o word ws
  checks word w = record { word_is = w ∙ ap (λ (x : checking.Outcome). check_word x.answer) e; kept_is = ap (λ (x : checking.Outcome). x.words) e }
