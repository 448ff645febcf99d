-- What a call leaves in the lent words of a kept evaluation: the evaluation that a definition gives, or after a 17 anything in the used words.
-- Assumes nothing.
use Rattle.std.specs.Prelude.{ℕ, ◌≤◌, ◌≡◌, refl, List, length, drop, Result, Ok, Err, Option, Some, None}
use Rattle.std.proofs.Common.{ap, sym, ◌∙◌}
use Rattle.kept_laws.specs.declared.OutOfRange.{OutOfRange}
use Rattle.kept.specs.Tables.{Tables}
use Rattle.kept.specs.Evaluation.{Evaluation}
use Rattle.kept.specs.Layout.{of_words, written, used}
use Rattle.kept.specs.LayoutLaws.{Fits}
use Rattle.kept_laws.specs.Written.{written_same, of_written, written_again, written_behind, length-written}

-- as long, and the same behind the used words
pub record Beside (T : Tables) (ws after : List ℕ) : Type 0 where
  pub long : length after ≡ length ws
  pub behind : drop (used T) after ≡ drop (used T) ws

-- what a change answers
abbrev pub Changing : Type 0
Changing = Result (Unit {0}) OutOfRange

abbrev pub done : Changing
done = Ok tt

abbrev pub out_of_range : Changing
out_of_range = Err (record {})

-- ok tells whether there is an evaluation
abbrev pub Wrote : Tables → List ℕ → Option Evaluation → Changing → List ℕ → Type 0
Wrote T ws None ok after = (ok ≡ out_of_range) × Beside T ws after
Wrote T ws (Some e) ok after = (ok ≡ done) × (after ≡ written T ws e)

pub apart : out_of_range ≡ done → ⊥
apart e = cc

pub beside_same : (T : Tables) (ws : List ℕ) → Beside T ws ws
beside_same T ws = record { long = refl; behind = refl }

pub beside_then : (T : Tables) (ws mid after : List ℕ) → Beside T ws mid → Beside T mid after → Beside T ws after
beside_then T ws mid after p q = record { long = q.long ∙ p.long; behind = q.behind ∙ p.behind }

pub beside_written : (T : Tables) (ws : List ℕ) (e : Evaluation) → used T ≤ length ws → Fits T e → Beside T ws (written T ws e)
beside_written T ws e l f = record { long = length-written T ws l e f; behind = written_behind T ws l e f }

module _ (T : Tables) (ws : List ℕ) (o : Option Evaluation) (after : List ℕ) where
  -- to tell that it was written, or that it was a 17
  pub wrote_some : (e : Evaluation) → o ≡ Some e → after ≡ written T ws e → Wrote T ws o done after
  wrote_some e p q = rw p (refl, q)

  pub wrote_none : o ≡ None → Beside T ws after → Wrote T ws o out_of_range after
  wrote_none p q = rw p (refl, q)

  -- and what a caller learns from it
  pub wrote_done : (ok : Changing) → Wrote T ws o ok after → ok ≡ done → (e : Evaluation) × (o ≡ Some e) × (after ≡ written T ws e)
  wrote_done ok w p = go o refl w
    where
      go : (x : Option Evaluation) → o ≡ x → Wrote T ws x ok after → (e : Evaluation) × (o ≡ Some e) × (after ≡ written T ws e)
      go None q h = absurd (apart (sym h.0 ∙ p))
      go (Some e) q h = (e, q, h.1)

  pub wrote_out_of_range : (ok : Changing) → Wrote T ws o ok after → ok ≡ out_of_range → (o ≡ None) × Beside T ws after
  wrote_out_of_range ok w p = go o refl w
    where
      go : (x : Option Evaluation) → o ≡ x → Wrote T ws x ok after → (o ≡ None) × Beside T ws after
      go None q h = (q, h.1)
      go (Some e) q h = absurd (apart (sym p ∙ h.0))

-- nothing to do
pub wrote_same : (T : Tables) (ws : List ℕ) → used T ≤ length ws → Wrote T ws (Some (of_words T ws)) done ws
wrote_same T ws l = (refl, sym (written_same T ws l))

-- two calls, the second on what the first wrote
module _ (T : Tables) (ws mid : List ℕ) (e : Evaluation) (l : used T ≤ length ws) (f : Fits T e) (w : mid ≡ written T ws e) where
  pub mid_holds : of_words T mid ≡ e
  mid_holds = ap (of_words T) w ∙ of_written T ws l e f

  pub mid_long : length mid ≡ length ws
  mid_long = ap length w ∙ length-written T ws l e f

  pub wrote_then : (o : Option Evaluation) (ok : Changing) (after : List ℕ) → Wrote T mid o ok after → Wrote T ws o ok after
  wrote_then None ok after h = (h.0, beside_then T ws mid after (rw w (beside_written T ws e l f)) h.1)
  wrote_then (Some d) ok after h = (h.0, h.1 ∙ ap (λ x. written T x d) w ∙ written_again T ws l e f d)
