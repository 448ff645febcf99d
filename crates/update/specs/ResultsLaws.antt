-- Results from the parts that calls answer and leave.
-- Assumes nothing.
use Rattle.std.specs.Prelude.{ℕ, ◌≤◌, ◌≡◌, refl, List, length, Option, Some, None, Err}
use Rattle.std.proofs.Common.{ap, ◌∙◌}
use Rattle.theory.specs.declared.Refusal.{Refusal}
use Rattle.kept.specs.Tables.{Tables}
use Rattle.kept.specs.Evaluation.{Evaluation}
use Rattle.kept.specs.Verdict.{Verdict}
use Rattle.kept.specs.Check.{Result, accepted, refused, concluded}
use Rattle.kept.specs.Layout.{written, used}
use Rattle.kept.specs.LayoutLaws.{Fits}
use Rattle.kept_laws.specs.Written.{written_again}
use Rattle.kept_laws.specs.Wrote.{Beside, beside_then, beside_written}
use Rattle.update.specs.Results.{Checked, answer_of, answer_in, Leaves, Results}

module _ (T : Tables) (ws : List ℕ) where
  -- a refusal
  pub refused_results : (x : Result) (r : Refusal) (after : List ℕ) → x ≡ refused r → Beside T ws after → Results T ws x (Err r) after
  refused_results x r after e b = rw e (refl, b)

  -- the verdict of what the words hold
  pub concluded_results : (x : Result) (o : Option Verdict) (n : ℕ) (e : Evaluation) (r : Checked) (after : List ℕ) → used T ≤ length ws → Fits T e
      → x ≡ concluded o n e → answer_of r ≡ answer_in (concluded o n e) → after ≡ written T ws e → Results T ws x r after
  concluded_results x o n e r after l f p a w = rw p (a, go o)
    where
      go : (o : Option Verdict) → Leaves T ws (concluded o n e) after
      go None = rw w (beside_written T ws e l f)
      go (Some v) = w

  -- by equal results
  pub results_by : (x y : Result) (r : Checked) (after : List ℕ) → x ≡ y → Results T ws y r after → Results T ws x r after
  results_by x y r after e h = rw e h

  -- on what an earlier call wrote
  pub results_then : (mid : List ℕ) (e : Evaluation) → used T ≤ length ws → Fits T e → mid ≡ written T ws e → (x : Result) (r : Checked) (after : List ℕ) → Results T mid x r after → Results T ws x r after
  results_then mid e l f w (accepted v n d) r after h = (h.0, h.1 ∙ ap (λ y. written T y d) w ∙ written_again T ws l e f d)
  results_then mid e l f w (refused s) r after h = (h.0, beside_then T ws mid after (rw w (beside_written T ws e l f)) h.1)
