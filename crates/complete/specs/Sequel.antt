-- The phases one after the other: what the next one finds, and what all of them leave.
-- Assumes nothing.
use Rattle.std.specs.Prelude.{ℕ, ◌≤◌, ◌≡◌, List, length, replicate, Err}
use Rattle.std.proofs.Common.{arith, ◌∙◌}
use Rattle.std.proofs.Math.Path.{refl, ap}
use Rattle.formula.specs.Satisfaction.{Interpretation}
use Rattle.formula.specs.Passes.{Within}
use Rattle.theory.specs.Admission.{or_else, first_refusal, Admission, admitted}
use Rattle.theory.specs.declared.Counts.{Counts}
use Rattle.theory.specs.declared.Refusal.{Refusal}
use Rattle.words.specs.Sets.{member}
use Rattle.kept.specs.Tabulate.{tabulate}
use Rattle.kept.specs.SetOf.{words32, set_of}
use Rattle.kept.specs.SetOfLaws.{length-set_of}
use Rattle.kept.specs.Tables.{Tables, atom_count, node_count, root_count}
use Rattle.kept.specs.Evaluation.{Evaluation, present, no_members, fresh}
use Rattle.kept.specs.Check.{node_entry, producer_entry, root_entry, tables_admission}
use Rattle.kept.specs.Layout.{of_words, written, used}
use Rattle.kept.specs.LayoutLaws.{Fits, fits_of}
use Rattle.kept_laws.specs.Given.{sized}
use Rattle.words.specs.Halves.{half}
use Rattle.kept_laws.specs.Halves.{halves}
use Rattle.kept_laws.specs.Wrote.{mid_holds}
use Rattle.complete.specs.Laid.{Laid, laid_same, laid_stop, laid_after, laid_holds, laid_then}
use Rattle.complete.specs.Phases.{begun, truths_laid, support_laid, missing_laid, roots_laid, summarised}
use Rattle.complete.specs.ResetLaws.{begun_fits}
use Rattle.complete.specs.TruthLaws.{risen_all, risen_fits}
use Rattle.complete.specs.SupportLaws.{supplied_all, supplied_fits}
use Rattle.complete.specs.SetLaws.{lacking_all, lacking_fits}
use Rattle.complete.specs.FreshLaws.{first_present, fresh-laid}

-- what words hold goes by the counts alone
pub of_sized : (t : Counts) (T U : Tables) (ws : List ℕ) → of_words (sized t T) ws ≡ of_words (sized t U) ws
unfolding of_words
of_sized t T U ws = refl

module _ (T : Tables) (e : Evaluation) (f : Fits T e) where
  truths_fit : Fits T (truths_laid T e)
  truths_fit = rw (risen_all T e f) at (risen_fits T e f (node_count T) (omega arith))

  support_fits : Fits T (support_laid T e)
  support_fits = rw (supplied_all T e) at (supplied_fits T e f T.made)

  missing_fits : Fits T (missing_laid T e)
  missing_fits = rw (lacking_all T e (atom_count T) (omega arith)) at (lacking_fits T e f (atom_count T))

-- ---- the summary

module _ (T : Tables) (ws : List ℕ) (long : used T ≤ length ws) (mid : List ℕ) (r : Admission)
    (h : Laid T ws (first_refusal (producer_entry T) 0 T.made) (support_laid T (of_words T ws)) r mid) where
  abbrev e : Evaluation
  e = of_words T ws

  fits : Fits T e
  fits = fits_of T ws long

  pub summary_stop : (x : Refusal) → r ≡ Err x
      → Laid T ws (or_else (first_refusal (producer_entry T) 0 T.made) (first_refusal (root_entry T) 0 (root_count T))) (summarised T e) (Err x) mid
  summary_stop x q = laid_stop T ws (first_refusal (producer_entry T) 0 T.made) (first_refusal (root_entry T) 0 (root_count T)) (support_laid T e) (summarised T e) r mid x h q

  module _ (q : r ≡ admitted) where
    held : of_words T mid ≡ support_laid T e
    held = mid_holds T ws mid (support_laid T e) long (support_fits T e fits) (laid_holds T ws long (support_laid T e) (support_fits T e fits) mid (first_refusal (producer_entry T) 0 T.made) r h q)

    -- the missing atoms and false roots are as they were
    pub still_missing : (of_words T mid).missing ≡ e.missing
    unfolding support_laid
    still_missing = ap (λ d. d.missing) held

    still_roots : (of_words T mid).false_roots ≡ e.false_roots
    unfolding support_laid
    still_roots = ap (λ d. d.false_roots) held

    module _ (next : List ℕ) (m : next ≡ written T mid (missing_laid T (of_words T mid))) where
      longer : used T ≤ length mid
      longer = rw h.2.long long

      then_fits : Fits T (missing_laid T (of_words T mid))
      then_fits = missing_fits T (of_words T mid) (fits_of T mid longer)

      pub still_roots_then : (of_words T next).false_roots ≡ e.false_roots
      unfolding missing_laid
      still_roots_then = ap (λ d. d.false_roots) (mid_holds T mid next (missing_laid T (of_words T mid)) longer then_fits m) ∙ still_roots

      pub summary_done : (x : Admission) (after : List ℕ) → Laid T next (first_refusal (root_entry T) 0 (root_count T)) (roots_laid T (of_words T next)) x after
          → Laid T ws (or_else (first_refusal (producer_entry T) 0 T.made) (first_refusal (root_entry T) 0 (root_count T))) (summarised T e) x after
      unfolding summarised
      summary_done x after k =
          laid_then T ws long (support_laid T e) (support_fits T e fits) mid (first_refusal (producer_entry T) 0 T.made) (first_refusal (root_entry T) 0 (root_count T)) r h q
          (λ d. roots_laid T (missing_laid T d)) x after
          (laid_after T mid longer (missing_laid T (of_words T mid)) then_fits next m (λ d. first_refusal (root_entry T) 0 (root_count T)) (roots_laid T) x after k)

-- ---- the whole

module _ (T : Tables) (ws : List ℕ) (long : used T ≤ length ws) (words : List ℕ) (w : Within (atom_count T) (member 64 words)) (first : List ℕ)
    (b : first ≡ written T ws (begun T (of_words T ws).truths (tabulate (words32 (atom_count T)) (half words))))
    (mid : List ℕ) (r : Admission)
    (h : Laid T first (first_refusal (node_entry T (present (of_words T first))) 0 (node_count T)) (truths_laid T (of_words T first)) r mid) where
  abbrev J : Interpretation
  J = member 64 words

  abbrev start : Evaluation
  start = begun T (of_words T ws).truths (set_of J (atom_count T))

  abbrev rest : Admission
  rest = or_else (first_refusal (producer_entry T) 0 T.made) (first_refusal (root_entry T) 0 (root_count T))

  start_fits : Fits T start
  start_fits = begun_fits T (of_words T ws).truths (set_of J (atom_count T)) (fits_of T ws long).truths (length-set_of J (atom_count T))

  begins : first ≡ written T ws start
  begins = b ∙ ap (λ c. written T ws (begun T (of_words T ws).truths c)) (halves words (atom_count T) w)

  then : Laid T ws (first_refusal (node_entry T J) 0 (node_count T)) (truths_laid T start) r mid
  then =
      laid_same T ws (first_refusal (node_entry T (present start)) 0 (node_count T)) (first_refusal (node_entry T J) 0 (node_count T)) (truths_laid T start) (truths_laid T start) r mid
      (ap (λ I. first_refusal (node_entry T I) 0 (node_count T)) (first_present T J w (of_words T ws).truths)) refl
      (laid_after T ws long start start_fits first begins (λ d. first_refusal (node_entry T (present d)) 0 (node_count T)) (truths_laid T) r mid h)

  pub complete_stop : (x : Refusal) → r ≡ Err x → Laid T ws (tables_admission T J) (fresh T J) (Err x) mid
  unfolding tables_admission
  complete_stop x q = laid_stop T ws (first_refusal (node_entry T J) 0 (node_count T)) rest (truths_laid T start) (fresh T J) r mid x then q

  module _ (q : r ≡ admitted) where
    risen : of_words T mid ≡ truths_laid T start
    risen = mid_holds T ws mid (truths_laid T start) long (truths_fit T start start_fits) (laid_holds T ws long (truths_laid T start) (truths_fit T start start_fits) mid (first_refusal (node_entry T J) 0 (node_count T)) r then q)

    -- nothing is summarised yet
    pub no_support : (of_words T mid).support ≡ replicate (atom_count T) 0
    unfolding truths_laid begun
    no_support = ap (λ d. d.support) risen

    pub no_missing : (of_words T mid).missing ≡ no_members (atom_count T)
    unfolding truths_laid begun
    no_missing = ap (λ d. d.missing) risen

    pub no_roots : (of_words T mid).false_roots ≡ no_members (root_count T)
    unfolding truths_laid begun
    no_roots = ap (λ d. d.false_roots) risen

    pub complete_done : (x : Admission) (after : List ℕ) → Laid T mid rest (summarised T (of_words T mid)) x after → Laid T ws (tables_admission T J) (fresh T J) x after
    unfolding tables_admission
    complete_done x after k =
        laid_same T ws (tables_admission T J) (tables_admission T J) (summarised T (truths_laid T start)) (fresh T J) x after refl (fresh-laid T J w (of_words T ws).truths)
        (laid_then T ws long (truths_laid T start) (truths_fit T start start_fits) mid (first_refusal (node_entry T J) 0 (node_count T)) rest r then q (summarised T) x after k)
