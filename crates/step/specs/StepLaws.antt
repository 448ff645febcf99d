-- What each branch of a step gives.
-- Assumes nothing.
use Rattle.std.specs.Prelude.{ℕ, ◌<◌, ◌≤◌, ◌≡◌, refl, Bool, List, length, get_or, Some, Option, None, Result, Ok, Err}
use Rattle.std.proofs.Common.{arith, ◌∙◌, lt-ltb}
use Rattle.std.proofs.Math.Path.{ap, sym}
use Rattle.theory.specs.Node.{node_at}
use Rattle.kept.specs.Tables.{Tables, node_count}
use Rattle.kept.specs.Seen.{node_seen}
use Rattle.kept.specs.Evaluation.{Evaluation}
use Rattle.kept.specs.Step.{seen, step_at, step}
use Rattle.kept.specs.Layout.{of_words, used}
use Rattle.kept_laws.specs.Exits.{step_idle, step_astray, step_unseen}
use Rattle.kept_laws.specs.Written.{get_first}
use Rattle.kept_laws.specs.Wrote.{beside_same}
use Rattle.node_truth.specs.InWords.{true_in, present_in}
use Rattle.node_truth.specs.InWordsLaws.{seen_in}
use Rattle.theory.specs.declared.Refusal.{Refusal}
use Rattle.theory.specs.declared.Refusal.TheVariants.{BadEntry}
use Rattle.step.specs.Steps.{Stepping, taken_from, Steps}

module _ (T : Tables) (ws : List ℕ) (k : ℕ) (is : k ≡ get_or ws 5 0) where
  abbrev e : Evaluation
  e = of_words T ws

  first : e.worklist.first ≡ k
  first = sym (is ∙ get_first T ws)

  pub step-none : k ≡ node_count T → Steps T ws (step T e) (Ok None) ws
  step-none h = rw (step_idle T e (first ∙ h)) (refl, refl)

  pub step_lost : node_count T < k → Steps T ws (step T e) (Err (BadEntry 0)) ws
  step_lost h = rw (step_astray T e (omega (arith, first))) (refl, beside_same T ws)

  module _ (long : used T ≤ length ws) (l : k < node_count T) (s : Option Bool)
      (told : s ≡ node_seen T.counts T.operands (present_in T.counts ws) (true_in ws) k (node_at T.nodes k)) where
    known : (r : Option Bool) → s ≡ r → seen T e k ≡ r
    unfolding seen
    known r p = sym (seen_in T ws long k l) ∙ sym told ∙ p

    pub step_stray : s ≡ None → Steps T ws (step T e) (Err (BadEntry k)) ws
    step_stray p = rw (step_unseen T e k first l (known None p)) (refl, beside_same T ws)

    taken : (t : Bool) → seen T e k ≡ Some t → step T e ≡ taken_from T k t e
    unfolding step step_at taken_from
    taken t h = ap (step_at T e) first ∙ rw (lt-ltb k (node_count T) l, h)

    -- t is the truth that was seen
    pub step_taken : (t : Bool) → s ≡ Some t → (r : Stepping) (after : List ℕ) → Steps T ws (taken_from T k t e) r after → Steps T ws (step T e) r after
    step_taken t p r after h = rw (taken t (known (Some t) p)) h
