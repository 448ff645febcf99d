-- What a phase of a fresh check answers and leaves in the lent words, and phases one after the other.
-- Assumes nothing.
use Rattle.std.specs.Prelude.{ℕ, ◌≤◌, ◌≡◌, refl, List, length, Err}
use Rattle.std.proofs.Common.{ap, ap₂, sym, ◌∙◌}
use Rattle.theory.specs.Admission.{or_else, Admission, admitted}
use Rattle.theory.specs.Refusals.{not_both}
use Rattle.theory.specs.declared.Refusal.{Refusal}
use Rattle.kept.specs.Tables.{Tables}
use Rattle.kept.specs.Evaluation.{Evaluation}
use Rattle.kept.specs.Layout.{of_words, written, used}
use Rattle.kept.specs.LayoutLaws.{Fits}
use Rattle.kept_laws.specs.Written.{written_again}
use Rattle.kept_laws.specs.Wrote.{Beside, beside_then, beside_written, mid_holds}

-- the answer is a; admitted, the words hold e; in any case nothing behind the used words changed
abbrev pub Laid : Tables → List ℕ → Admission → Evaluation → Admission → List ℕ → Type 0
Laid T ws a e r after = (r ≡ a) × (a ≡ admitted → after ≡ written T ws e) × Beside T ws after

module _ (T : Tables) (ws : List ℕ) where
  pub laid_same : (a b : Admission) (e d : Evaluation) (r : Admission) (after : List ℕ) → a ≡ b → e ≡ d → Laid T ws a e r after → Laid T ws b d r after
  laid_same a b e d r after p q h = (h.0 ∙ p, λ i. h.1 (p ∙ i) ∙ ap (written T ws) q, h.2)

  -- a refusal ends it
  pub laid_stop : (a b : Admission) (e d : Evaluation) (r : Admission) (after : List ℕ) (x : Refusal) → Laid T ws a e r after → r ≡ Err x → Laid T ws (or_else a b) d (Err x) after
  laid_stop a b e d r after x h q = rw (sym h.0 ∙ q) (refl, λ i. absurd (not_both x i), h.2)

  module _ (long : used T ≤ length ws) (e : Evaluation) (fits : Fits T e) (mid : List ℕ) where
    -- on words that hold e
    pub laid_after : mid ≡ written T ws e → (a : Evaluation → Admission) (f : Evaluation → Evaluation) (r : Admission) (after : List ℕ)
        → Laid T mid (a (of_words T mid)) (f (of_words T mid)) r after → Laid T ws (a e) (f e) r after
    laid_after w a f r after h =
        let held : of_words T mid ≡ e = mid_holds T ws mid e long fits w in (
          h.0 ∙ ap a held,
          λ q. h.1 (ap a held ∙ q) ∙ ap₂ (λ x y. written T x (f y)) w held ∙ written_again T ws long e fits (f e),
          beside_then T ws mid after (rw w (beside_written T ws e long fits)) h.2,
        )

    -- after an admitted phase
    pub laid_holds : (a r : Admission) → Laid T ws a e r mid → r ≡ admitted → mid ≡ written T ws e
    laid_holds a r h q = h.1 (sym h.0 ∙ q)

    pub laid_then : (a b x : Admission) → Laid T ws a e x mid → x ≡ admitted → (f : Evaluation → Evaluation) (r : Admission) (after : List ℕ)
        → Laid T mid b (f (of_words T mid)) r after → Laid T ws (or_else a b) (f e) r after
    laid_then a b x h q f r after k = rw (sym h.0 ∙ q) (laid_after (laid_holds a x h q) (λ d. b) f r after k)
