-- A call that enters nodes, while it runs: what is written so far, and what is left to do.
-- Assumes nothing.
use Rattle.std.specs.Prelude.{ℕ, ◌≤◌, ◌≡◌, refl, List, length, Option, Some, None}
use Rattle.std.proofs.Common.{ap, sym, ◌∙◌}
use Rattle.kept.specs.CountedSet.{and_then}
use Rattle.kept.specs.Tables.{Tables}
use Rattle.kept.specs.Evaluation.{Evaluation}
use Rattle.kept.specs.Layout.{of_words, written, used}
use Rattle.kept.specs.LayoutLaws.{Fits, fits_of}
use Rattle.kept_laws.specs.Written.{written_same, of_written, written_again, length-written}
use Rattle.kept_laws.specs.Wrote.{Beside, Wrote, beside_then, beside_written, Changing, done, out_of_range}

-- of ws with o to be entered, mid is reached: rest is left to do on its evaluation
pub record Onward (T : Tables) (ws : List ℕ) (o : Option Evaluation) (mid : List ℕ) (rest : Option Evaluation) : Type 0 where
  pub held : mid ≡ written T ws (of_words T mid)
  pub long : length mid ≡ length ws
  pub left : rest ≡ o

module _ (T : Tables) (ws : List ℕ) (o : Option Evaluation) (room : used T ≤ length ws) where
  pub onward_first : (rest : Option Evaluation) → rest ≡ o → Onward T ws o ws rest
  onward_first rest p = record { held = sym (written_same T ws room); long = refl; left = p }

  module _ (mid : List ℕ) (rest : Option Evaluation) (w : Onward T ws o mid rest) where
    pub onward-room : used T ≤ length mid
    onward-room = rw w.long room

    pub onward_fits : Fits T (of_words T mid)
    onward_fits = fits_of T mid onward-room

    pub onward_beside : Beside T ws mid
    onward_beside = rw w.held (beside_written T ws (of_words T mid) room onward_fits)

    -- a 17: after is what a call left of mid
    pub onward_stray : (after : List ℕ) → rest ≡ None → Beside T mid after → Wrote T ws o out_of_range after
    onward_stray after p b = rw (← w.left, p) (refl, beside_then T ws mid after onward_beside b)

    pub onward_done : rest ≡ Some (of_words T mid) → Wrote T ws o done mid
    onward_done p = rw (← w.left, p) (refl, w.held)

    -- a call does all that is left
    pub onward_then : (r : Changing) (after : List ℕ) → Wrote T mid rest r after → Wrote T ws o r after
    onward_then r after h = go rest refl h
      where
        go : (x : Option Evaluation) → rest ≡ x → Wrote T mid x r after → Wrote T ws o r after
        go None p h = rw h.0 (onward_stray after p h.1)
        go (Some d) p h =
            rw (← w.left, p) (h.0, h.1 ∙ ap (λ x. written T x d) w.held ∙ written_again T ws room (of_words T mid) onward_fits d)

    -- a part of what is left was written
    pub onward_more : (p : Option Evaluation) (f : Evaluation → Option Evaluation) (d : Evaluation) (after : List ℕ)
        → rest ≡ and_then p f → p ≡ Some d → Fits T d → after ≡ written T mid d → Onward T ws o after (f (of_words T after))
    onward_more p f d after e h fits a =
        record {
          held = a ∙ ap (λ x. written T x d) w.held ∙ written_again T ws room (of_words T mid) onward_fits d ∙ ap (written T ws) (sym holds);
          long = ap length a ∙ length-written T mid onward-room d fits ∙ w.long;
          left = ap f holds ∙ sym (ap (λ x. and_then x f) h) ∙ sym e ∙ w.left;
        }
      where
        holds : of_words T after ≡ d
        holds = ap (of_words T) a ∙ of_written T mid onward-room d fits
