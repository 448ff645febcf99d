-- Truth node by node: what the loop over the nodes keeps, and what each of its turns gives.
-- Assumes nothing.
use Rattle.std.specs.Prelude.{ℕ, suc, ◌<◌, ◌≤◌, ◌≡◌, Bool, true, eqb, get_or, set, Option, Some, None}
use Rattle.std.proofs.Common.{arith, sym, ◌∙◌}
use Rattle.std.proofs.Math.Path.{refl, ap}
use Rattle.std.proofs.Math.Logic.{inl, inr}
use Rattle.std.proofs.Math.Bool.{false, not}
use Rattle.base.specs.Rising.{rising_at, rising_stays}
use Rattle.formula.specs.Satisfaction.{Interpretation}
use Rattle.theory.specs.Node.{node_at}
use Rattle.theory.specs.NodeTruth.{node_truth, node_truths}
use Rattle.kept.specs.Tables.{Tables, node_count}
use Rattle.kept.specs.Evaluation.{Evaluation, truth_at, present, truth_word, truth}
use Rattle.kept.specs.Parts.{with_truths}
use Rattle.kept.specs.Seen.{seen_by}
use Rattle.kept.specs.SeenLaws.{seen_agree, seen-is}
use Rattle.kept.specs.Check.{node_entry}
use Rattle.kept.specs.LayoutLaws.{Fits}
use Rattle.kept_laws.specs.Filling.{filled, filled_none, filled_all, filled_next}
use Rattle.complete.specs.Fills.{length-filled, filled_at}
use Rattle.complete.specs.Phases.{truth_set, truths_laid}
use Rattle.complete.specs.Runs.{Turn}

pub nonzero : (b : Bool) → not (eqb (truth_word b) 0) ≡ b
nonzero true = refl
nonzero false = refl

-- ---- the truth of a node that was read

module _ (T : Tables) (J : Interpretation) (k : ℕ) (l : k < node_count T) where
  -- those of the nodes below k
  lower : ℕ → Bool
  lower o = get_or (node_truths J T.nodes T.operands k) o false

  lower_same : (o : ℕ) → o < k → truth T J o ≡ lower o
  unfolding truth lower node_truths
  lower_same o i = rising_stays false (λ v k. node_truth J T.operands v (node_at T.nodes k)) (node_count T) k o (omega arith) i

  pub truth-seen : (t : Bool) → seen_by T J (truth T J) k ≡ Some t → truth T J k ≡ t
  unfolding truth lower node_truths
  truth-seen t e =
      rising_at false (λ v k. node_truth J T.operands v (node_at T.nodes k)) (node_count T) k l
      ∙ seen-is T J lower k t (sym (seen_agree T J J (truth T J) lower k (λ a i. refl) lower_same) ∙ e)

-- ---- the loop

module _ (T : Tables) (e : Evaluation) where
  abbrev word : ℕ → ℕ
  word k = truth_word (truth T (present e) k)

  -- the truth of the nodes below k
  unfoldable pub risen : ℕ → Evaluation
  risen k = with_truths e (filled k word e.truths)

  pub risen_none : risen 0 ≡ e
  unfolding risen
  risen_none = ap (with_truths e) (filled_none word e.truths)

  module _ (fits : Fits T e) where
    pub risen_all : risen (node_count T) ≡ truths_laid T e
    unfolding risen truths_laid
    risen_all = ap (with_truths e) (filled_all (node_count T) word e.truths fits.truths)

    pub risen_fits : (k : ℕ) → k ≤ node_count T → Fits T (risen k)
    unfolding risen
    risen_fits k l =
        record {
          truths = length-filled k word e.truths (omega (arith, fits.truths)) ∙ fits.truths;
          worklist = fits.worklist;
          support = fits.support;
          candidate = fits.candidate;
          missing = fits.missing;
          false_roots = fits.false_roots;
          groups = fits.groups;
        }

    risen_below : (k o : ℕ) → o < k → truth_at (risen k) o ≡ truth T (present e) o
    unfolding risen
    risen_below k o l = ap (λ x. not (eqb x 0)) (filled_at k word e.truths 0 o l) ∙ nonzero (truth T (present e) o)

    -- as the code reads it
    risen_seen : (k : ℕ) → seen_by T (present (risen k)) (truth_at (risen k)) k ≡ seen_by T (present e) (truth T (present e)) k
    unfolding risen
    risen_seen k = seen_agree T (present e) (present e) (truth_at (risen k)) (truth T (present e)) k (λ a i. refl) (λ o i. risen_below k o i)

    risen_next : (k : ℕ) (t : Bool) → k < node_count T → truth T (present e) k ≡ t → with_truths (risen k) (set (risen k).truths k (truth_word t)) ≡ risen (suc k)
    unfolding risen
    risen_next k t l q =
        ap (λ x. with_truths e (set (filled k word e.truths) k (truth_word x))) (sym q)
        ∙ ap (with_truths e) (filled_next k word e.truths (omega (arith, fits.truths)))

    pub risen_turn : (k : ℕ) → k < node_count T → Turn risen (node_entry T (present e)) (truth_set T) (λ j. j) k
    unfolding node_entry truth_set
    risen_turn k l = go (seen_by T (present e) (truth T (present e)) k) refl
      where
        go : (o : Option Bool) → seen_by T (present e) (truth T (present e)) k ≡ o → Turn risen (node_entry T (present e)) (truth_set T) (λ j. j) k
        go None p = inr (rw p, rw (risen_seen k ∙ p))
        go (Some t) p = inl (rw p, rw (risen_seen k ∙ p) (ap Some (risen_next k t l (truth-seen T (present e) k l t p))))
