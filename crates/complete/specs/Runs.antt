-- A loop of steps, each of which writes the next evaluation or is the first refusal.
-- Assumes nothing.
use Rattle.std.specs.Prelude.{ℕ, suc, ◌<◌, ◌≤◌, ◌+◌, ◌-◌, ◌≡◌, ◌⊎◌, List, length, Option, Some, None, Err}
use Rattle.std.proofs.Common.{add-one, arith, ap, sym, ◌∙◌, ⊎_elim}
use Rattle.std.proofs.Math.Nat.{sub-zero}
use Rattle.theory.specs.Admission.{first_refusal, Admission, admitted}
use Rattle.theory.specs.Refusals.{first_stop, first_go, first_done, not_both}
use Rattle.theory.specs.declared.Refusal.TheVariants.{BadEntry}
use Rattle.kept.specs.Tables.{Tables}
use Rattle.kept.specs.Evaluation.{Evaluation}
use Rattle.kept.specs.Layout.{of_words, written, used}
use Rattle.kept.specs.LayoutLaws.{Fits}
use Rattle.kept_laws.specs.Written.{written_same, written_again}
use Rattle.kept_laws.specs.Wrote.{apart, Wrote, Beside, beside_then, beside_written, mid_holds, Changing, done, out_of_range}
use Rattle.complete.specs.Laid.{Laid}

-- after k of n steps: the words hold state k, and none was refused
pub record Run (T : Tables) (ws : List ℕ) (n : ℕ) (state : ℕ → Evaluation) (entry : ℕ → Admission) (k : ℕ) (mid : List ℕ) : Type 0 where
  pub holds : mid ≡ written T ws (state k)
  pub left : first_refusal entry 0 n ≡ first_refusal entry k (n - k)

-- step k is admitted and makes the next state, or it is refused at a place
abbrev pub Turn : (ℕ → Evaluation) → (ℕ → Admission) → (ℕ → Evaluation → Option Evaluation) → (ℕ → ℕ) → ℕ → Type 0
Turn state entry step place k = ((entry k ≡ admitted) × (step k (state k) ≡ Some (state (suc k)))) ⊎ ((entry k ≡ Err (BadEntry (place k))) × (step k (state k) ≡ None))

module _ (T : Tables) (ws : List ℕ) (long : used T ≤ length ws) (n : ℕ) (state : ℕ → Evaluation) (entry : ℕ → Admission) where
  pub run_none : state 0 ≡ of_words T ws → Run T ws n state entry 0 ws
  run_none p = record { holds = sym (ap (written T ws) p ∙ written_same T ws long); left = rw sub-zero }

  pub run_done : (k : ℕ) (mid : List ℕ) (e : Evaluation) → ((k : ℕ) → k ≤ n → Fits T (state k)) → Run T ws n state entry k mid → n ≤ k → k ≤ n → state n ≡ e → Laid T ws (first_refusal entry 0 n) e admitted mid
  run_done k mid e fits r l m q =
      let i : k ≡ n = omega arith in
      let w : mid ≡ written T ws (state n) = r.holds ∙ ap (λ j. written T ws (state j)) i in
      (first_done entry k n (first_refusal entry 0 n) r.left l, λ a. w ∙ ap (written T ws) q, rw w (beside_written T ws (state n) long (fits n (omega arith))))

  module _ (step : ℕ → Evaluation → Option Evaluation) (place : ℕ → ℕ) (fits : (k : ℕ) → k ≤ n → Fits T (state k)) (k : ℕ) (l : k < n) (turn : Turn state entry step place k)
      (mid : List ℕ) (r : Run T ws n state entry k mid) (ok : Changing) (after : List ℕ) (w : Wrote T mid (step k (of_words T mid)) ok after) where
    here : Wrote T mid (step k (state k)) ok after
    here = rw (mid_holds T ws mid (state k) long (fits k (omega arith)) r.holds) at w

    beside : Beside T ws mid
    beside = rw r.holds (beside_written T ws (state k) long (fits k (omega arith)))

    pub run_next : ok ≡ done → Run T ws n state entry (k + 1) after
    run_next t = ⊎_elim
        (λ h. record {
          holds = made (rw h.1 at here).1;
          left = first_go entry k n (first_refusal entry 0 n) r.left l h.0;
        })
        (λ h. absurd (apart (sym (rw h.1 at here).0 ∙ t)))
        turn
      where
        made : after ≡ written T mid (state (suc k)) → after ≡ written T ws (state (k + 1))
        made p = p ∙ ap (λ x. written T x (state (suc k))) r.holds ∙ written_again T ws long (state k) (fits k (omega arith)) (state (suc k)) ∙ ap (λ j. written T ws (state j)) (sym (add-one k))

    pub run_stop : ok ≡ out_of_range → (e : Evaluation) → Laid T ws (first_refusal entry 0 n) e (Err (BadEntry (place k))) after
    run_stop f e = ⊎_elim
        (λ h. absurd (apart (sym f ∙ (rw h.1 at here).0)))
        (λ h.
        let stop : Err (BadEntry (place k)) ≡ first_refusal entry 0 n = first_stop entry k n (first_refusal entry 0 n) r.left (BadEntry (place k)) l h.0 in
        (stop, λ q. absurd (not_both (BadEntry (place k)) (stop ∙ q)), beside_then T ws mid after beside (rw h.1 at here).1))
        turn
