-- The loops over nodes, producers, roots and the atoms that lack support: how each begins, goes on, stops and ends.
-- Assumes nothing.
use Rattle.std.specs.Prelude.{ℕ, suc, ◌<◌, ◌≤◌, ◌+◌, ◌-◌, ◌≡◌, true, List, length, replicate, Some, Err}
use Rattle.std.proofs.Common.{arith, sym, ◌∙◌}
use Rattle.std.proofs.Math.Path.{ap}
use Rattle.base.specs.Places.{Lowest}
use Rattle.theory.specs.Admission.{first_refusal, admitted}
use Rattle.theory.specs.declared.Refusal.TheVariants.{BadEntry}
use Rattle.kept.specs.Tables.{Tables, atom_count, node_count, root_count}
use Rattle.kept.specs.Evaluation.{Evaluation, present, no_members}
use Rattle.kept.specs.Check.{node_entry, producer_entry, root_entry}
use Rattle.kept.specs.Layout.{of_words, written, used}
use Rattle.kept.specs.LayoutLaws.{Fits, fits_of}
use Rattle.kept_laws.specs.Written.{written_same, written_again}
use Rattle.kept_laws.specs.Wrote.{Wrote, mid_holds, Changing, done, out_of_range}
use Rattle.retained.specs.Changes.{missing_turned}
use Rattle.complete.specs.Laid.{Laid}
use Rattle.complete.specs.Phases.{truth_set, truths_laid, producer_counted, support_laid, lacks, missing_laid, root_laid, roots_laid}
use Rattle.complete.specs.Runs.{Run, run_none, run_next, run_stop, run_done}
use Rattle.complete.specs.TruthLaws.{risen, risen_none, risen_all, risen_fits, risen_turn}
use Rattle.complete.specs.SupportLaws.{supplied, supplied_none, supplied_all, supplied_fits, supplied_turn}
use Rattle.complete.specs.SetLaws.{failed, failed_none, failed_all, failed_fits, failed_turn, lacking, lacking_none, lacking_all, lacking_fits, lacking_next, lacking_jump}
use Rattle.complete.specs.Search.{next_lacking, next_lacks}

-- after the nodes, producers, roots below a number
abbrev pub Truths : Tables → List ℕ → ℕ → List ℕ → Type 0
Truths T ws = Run T ws (node_count T) (risen T (of_words T ws)) (node_entry T (present (of_words T ws)))

abbrev pub Supports : Tables → List ℕ → ℕ → List ℕ → Type 0
Supports T ws = Run T ws T.made (supplied T (of_words T ws)) (producer_entry T)

abbrev pub Fails : Tables → List ℕ → ℕ → List ℕ → Type 0
Fails T ws = Run T ws (root_count T) (failed T (of_words T ws)) (root_entry T)

-- the atoms below a that lack support are missing, and a is the next that lacks it
pub record Lacks (T : Tables) (ws : List ℕ) (a : ℕ) (mid : List ℕ) : Type 0 where
  pub holds : mid ≡ written T ws (lacking T (of_words T ws) a)
  pub here : a < atom_count T → lacks (of_words T ws) a ≡ true

module _ (T : Tables) (ws : List ℕ) (long : used T ≤ length ws) where
  abbrev e : Evaluation
  e = of_words T ws

  fits : Fits T e
  fits = fits_of T ws long

  -- ---- nodes

  pub truths_none : Truths T ws 0 ws
  truths_none = run_none T ws long (node_count T) (risen T e) (node_entry T (present e)) (risen_none T e)

  pub truths_done : (k : ℕ) (mid : List ℕ) → Truths T ws k mid → node_count T ≤ k → k ≤ node_count T → Laid T ws (first_refusal (node_entry T (present e)) 0 (node_count T)) (truths_laid T e) admitted mid
  truths_done k mid r l m = run_done T ws long (node_count T) (risen T e) (node_entry T (present e)) k mid (truths_laid T e) (risen_fits T e fits) r l m (risen_all T e fits)

  module _ (k : ℕ) (l : k < node_count T) (mid : List ℕ) (r : Truths T ws k mid) (ok : Changing) (after : List ℕ) (w : Wrote T mid (truth_set T k (of_words T mid)) ok after) where
    pub truths_next : ok ≡ done → Truths T ws (k + 1) after
    truths_next = run_next T ws long (node_count T) (risen T e) (node_entry T (present e)) (truth_set T) (λ j. j) (risen_fits T e fits) k l (risen_turn T e fits k l) mid r ok after w

    pub truths_stop : ok ≡ out_of_range → (d : Evaluation) → Laid T ws (first_refusal (node_entry T (present e)) 0 (node_count T)) d (Err (BadEntry k)) after
    truths_stop = run_stop T ws long (node_count T) (risen T e) (node_entry T (present e)) (truth_set T) (λ j. j) (risen_fits T e fits) k l (risen_turn T e fits k l) mid r ok after w

  -- ---- producers

  pub supports_none : e.support ≡ replicate (atom_count T) 0 → Supports T ws 0 ws
  supports_none z = run_none T ws long T.made (supplied T e) (producer_entry T) (supplied_none T e z)

  pub supports_done : (p : ℕ) (mid : List ℕ) → Supports T ws p mid → T.made ≤ p → p ≤ T.made → Laid T ws (first_refusal (producer_entry T) 0 T.made) (support_laid T e) admitted mid
  supports_done p mid r l m = run_done T ws long T.made (supplied T e) (producer_entry T) p mid (support_laid T e) (λ k i. supplied_fits T e fits k) r l m (supplied_all T e)

  module _ (p : ℕ) (l : p < T.made) (mid : List ℕ) (r : Supports T ws p mid) (ok : Changing) (after : List ℕ) (w : Wrote T mid (producer_counted T p (of_words T mid)) ok after) where
    pub supports_next : ok ≡ done → Supports T ws (p + 1) after
    supports_next = run_next T ws long T.made (supplied T e) (producer_entry T) (producer_counted T) (λ j. 0) (λ k i. supplied_fits T e fits k) p l (supplied_turn T e p) mid r ok after w

    pub supports_stop : ok ≡ out_of_range → (d : Evaluation) → Laid T ws (first_refusal (producer_entry T) 0 T.made) d (Err (BadEntry 0)) after
    supports_stop = run_stop T ws long T.made (supplied T e) (producer_entry T) (producer_counted T) (λ j. 0) (λ k i. supplied_fits T e fits k) p l (supplied_turn T e p) mid r ok after w

  -- ---- roots

  pub fails_none : e.false_roots ≡ no_members (root_count T) → Fails T ws 0 ws
  fails_none z = run_none T ws long (root_count T) (failed T e) (root_entry T) (failed_none T e z)

  pub fails_done : (p : ℕ) (mid : List ℕ) → Fails T ws p mid → root_count T ≤ p → p ≤ root_count T → Laid T ws (first_refusal (root_entry T) 0 (root_count T)) (roots_laid T e) admitted mid
  fails_done p mid r l m = run_done T ws long (root_count T) (failed T e) (root_entry T) p mid (roots_laid T e) (λ k i. failed_fits T e fits k) r l m (failed_all T e)

  module _ (p : ℕ) (l : p < root_count T) (mid : List ℕ) (r : Fails T ws p mid) (ok : Changing) (after : List ℕ) (w : Wrote T mid (root_laid T p (of_words T mid)) ok after) where
    pub fails_next : ok ≡ done → Fails T ws (p + 1) after
    fails_next = run_next T ws long (root_count T) (failed T e) (root_entry T) (root_laid T) (λ j. 0) (λ k i. failed_fits T e fits k) p l (failed_turn T e p l) mid r ok after w

    pub fails_stop : ok ≡ out_of_range → (d : Evaluation) → Laid T ws (first_refusal (root_entry T) 0 (root_count T)) d (Err (BadEntry 0)) after
    fails_stop = run_stop T ws long (root_count T) (failed T e) (root_entry T) (root_laid T) (λ j. 0) (λ k i. failed_fits T e fits k) p l (failed_turn T e p l) mid r ok after w

  -- ---- the atoms that lack support

  pub lacks_none : e.missing ≡ no_members (atom_count T) → (a : ℕ) → a ≡ next_lacking T.counts ws 0 → Lacks T ws a ws
  lacks_none z a p =
      let next : Lowest (lacks e) 0 (atom_count T - 0) a = rw p (next_lacks T ws long 0 (omega arith)) in
      record {
        holds = sym (ap (written T ws) (sym (lacking_jump T e 0 (atom_count T - 0) a next) ∙ lacking_none T e z) ∙ written_same T ws long);
        here = λ l. next.here (omega arith);
      }

  pub lacks_done : (a : ℕ) (mid : List ℕ) → Lacks T ws a mid → atom_count T ≤ a → mid ≡ written T ws (missing_laid T e)
  lacks_done a mid r l = r.holds ∙ ap (written T ws) (lacking_all T e a l)

  module _ (a : ℕ) (l : a < atom_count T) (mid : List ℕ) (r : Lacks T ws a mid) (ok : Changing) (after : List ℕ) (w : Wrote T mid (missing_turned T a true (of_words T mid)) ok after) where
    gone : after ≡ written T ws (lacking T e (suc a))
    gone =
        let held : of_words T mid ≡ lacking T e a = mid_holds T ws mid (lacking T e a) long (lacking_fits T e fits a) r.holds in
        let made : Wrote T mid (Some (lacking T e (suc a))) ok after = rw (ap (missing_turned T a true) held ∙ lacking_next T e a l (r.here l)) at w in
        made.1 ∙ ap (λ x. written T x (lacking T e (suc a))) r.holds ∙ written_again T ws long (lacking T e a) (lacking_fits T e fits a) (lacking T e (suc a))

    -- the words that are sought through say the same of each atom
    still : (j : ℕ) → lacks (of_words T after) j ≡ lacks e j
    unfolding lacking
    still j = ap (λ x. lacks x j) (mid_holds T ws after (lacking T e (suc a)) long (lacking_fits T e fits (suc a)) gone)

    pub lacks_next : length after ≡ length ws → (b : ℕ) → b ≡ next_lacking T.counts after (a + 1) → Lacks T ws b after
    lacks_next k b p =
        let found : Lowest (lacks (of_words T after)) (a + 1) (atom_count T - (a + 1)) b = rw p (next_lacks T after (rw k long) (a + 1) (omega arith)) in
        let next : Lowest (lacks e) (suc a) (atom_count T - (a + 1)) b =
        record {
          from = omega (arith, found.from);
          within = omega (arith, found.within);
          before = λ j x y. sym (still j) ∙ found.before j (omega arith) y;
          here = λ h. sym (still b) ∙ found.here (omega arith);
        } in
        record {
          holds = gone ∙ ap (written T ws) (lacking_jump T e (suc a) (atom_count T - (a + 1)) b next);
          here = λ i. next.here (omega arith);
        }
