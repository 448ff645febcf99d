-- Reset, truth and summary one after the other are a fresh check.
-- Assumes nothing.
use Rattle.std.specs.Prelude.{ℕ, ◌<◌, ◌≤◌, ◌≡◌, refl, Bool, true, ◌&&◌, List, get_or, replicate}
use Rattle.std.proofs.Common.{arith, ◌∙◌, lt-ltb, le-ltb}
use Rattle.std.proofs.Math.Path.{ap, ap₂, sym, fun_ext}
use Rattle.std.proofs.Math.Logic.{⊎_elim}
use Rattle.std.proofs.Math.Bool.{false, not}
use Rattle.std.proofs.Math.Dec.{eqb}
use Rattle.std.proofs.lemmas.List.{length-replicate, get_or-replicate}
use Rattle.std.proofs.Math.ListN.{get_or-eq_default}
use Rattle.base.specs.Tests.{below_or}
use Rattle.base.specs.Places.{places_none, count_none}
use Rattle.base.specs.Rising.{length-rising}
use Rattle.formula.specs.Satisfaction.{Interpretation}
use Rattle.formula.specs.Passes.{Within}
use Rattle.theory.specs.Node.{node_at}
use Rattle.theory.specs.NodeTruth.{node_truth, node_truths}
use Rattle.words.specs.Sets.{member}
use Rattle.kept.specs.Tabulate.{tabulate, tabulate_at, length-tabulate}
use Rattle.kept.specs.SetOf.{words32, all_inserted, set_of}
use Rattle.kept.specs.SetOfLaws.{member-set_of}
use Rattle.kept.specs.CountedSet.{counted_set}
use Rattle.kept.proofs.CountedSetLaws.{counted_agree}
use Rattle.kept.specs.Worklist.{filled, but_lowest, worklist_of}
use Rattle.kept.proofs.WorklistLaws.{lists_of, first-none}
use Rattle.kept.specs.Tables.{Tables, atom_count, node_count, root_count}
use Rattle.kept.specs.Evaluation.{Evaluation, truth_at, present, no_members, truth_word, held, truth, support, false_root, summary, fresh}
use Rattle.complete.specs.Phases.{lacks, begun, truths_laid, support_laid, missing_laid, roots_laid, summarised}
use Rattle.complete.specs.TruthLaws.{nonzero}

-- ---- nothing waits

no_word : (f : ℕ → Bool) (n : ℕ) → ((j : ℕ) → f j ≡ false) → replicate (words32 n) 0 ≡ set_of f n
unfolding set_of all_inserted
no_word f n h = rw (places_none f 0 n (λ j a b. h j))

nobody : (f : ℕ → Bool) (n : ℕ) → ((j : ℕ) → f j ≡ false) → no_members n ≡ counted_set f n
unfolding counted_set
nobody f n h = rw (← no_word f n h, count_none f 0 n (λ j a b. h j))

no_group : (n q : ℕ) → filled (replicate (words32 n) 0) q ≡ false
unfolding filled
no_group n q = ap (λ x. not (eqb x 0)) (⊎_elim
    (λ l. get_or-replicate {A = ℕ} (words32 n) q 0 0 l)
    (λ l. get_or-eq_default (replicate (words32 n) 0) 0 {n = q} (omega (arith, length-replicate {A = ℕ} (words32 n) 0)))
    (below_or q (words32 n)))

nothing-listed : (n : ℕ) → record { first = n; far = 0; far_size = 0; others = no_members n; groups = replicate (words32 n) 0 } ≡ worklist_of (λ k. false) n
unfolding worklist_of but_lowest
nothing-listed n = λ i.
    record {
      first = sym (first-none (λ k. false) n (worklist_of (λ k. false) n) (lists_of n (λ k. false)) (λ j l. refl)) i;
      far = 0;
      far_size = 0;
      others = nobody (but_lowest (λ k. false) n) n (λ j. refl) i;
      groups = (no_word (filled (replicate (words32 n) 0)) n (no_group n) ∙ ap (λ l. set_of (filled l) n) (no_word (but_lowest (λ k. false) n) n (λ j. refl))) i;
    }

module _ (T : Tables) (J : Interpretation) where
  -- a number that is no node is not true
  past_nodes : (k : ℕ) → node_count T ≤ k → truth T J k ≡ false
  unfolding truth node_truths
  past_nodes k l =
      get_or-eq_default (node_truths J T.nodes T.operands (node_count T)) false {n = k}
      (omega (arith, length-rising false (λ v k. node_truth J T.operands v (node_at T.nodes k)) (node_count T)))

  words : List ℕ
  words = tabulate (node_count T) (λ k. truth_word (truth T J k))

  -- what the truth words say
  truth_words : (λ k. not (eqb (get_or words k 0) 0)) ≡ truth T J
  unfolding words
  truth_words = fun_ext (λ k. ⊎_elim
      (λ l. ap (λ x. not (eqb x 0)) (tabulate_at (node_count T) (λ k. truth_word (truth T J k)) 0 k l) ∙ nonzero (truth T J k))
      (λ l. ap (λ x. not (eqb x 0)) (get_or-eq_default words 0 {n = k} (omega (arith, length-tabulate (node_count T) (λ k. truth_word (truth T J k))))) ∙ sym (past_nodes k l))
      (below_or k (node_count T)))

  -- and the candidate's words
  pub present_words : Within (atom_count T) J → member 32 (set_of J (atom_count T)) ≡ J
  present_words w = fun_ext (λ a. member-set_of J (atom_count T) a ∙ ⊎_elim
      (λ l. rw (lt-ltb a (atom_count T) l))
      (λ l. rw (le-ltb a (atom_count T) l) (sym (outside a l (J a) refl)))
      (below_or a (atom_count T)))
    where
      outside : (a : ℕ) → atom_count T ≤ a → (b : Bool) → J a ≡ b → J a ≡ false
      outside a l true e = absurd (omega (arith, w a e))
      outside a l false e = e

  module _ (w : Within (atom_count T) J) (truths : List ℕ) where
    abbrev first : Evaluation
    first = begun T truths (set_of J (atom_count T))

    pub first_present : present first ≡ J
    unfolding begun
    first_present = present_words w

    -- the truth that the phases after it read
    told : truth_at (truths_laid T first) ≡ truth T J
    unfolding truths_laid words
    told = ap (λ I. λ k. not (eqb (get_or (tabulate (node_count T) (λ k. truth_word (truth T I k))) k 0) 0)) first_present ∙ truth_words

    lack : (a : ℕ) → a < atom_count T → lacks (support_laid T (truths_laid T first)) a ≡ J a && eqb (support T (truth T J) a) 0
    unfolding support_laid truths_laid begun
    lack a l =
        ap₂ (λ x y. x && eqb y 0) (ap (λ I. I a) (present_words w))
        (tabulate_at (atom_count T) (support T (truth_at (truths_laid T first))) 0 a l ∙ ap (λ v. support T v a) told)

    pub fresh-laid : summarised T (truths_laid T first) ≡ fresh T J
    unfolding summarised roots_laid missing_laid support_laid truths_laid begun fresh summary held
    fresh-laid = λ i.
        record {
          state = 1;
          stamp = T.counts.stamp;
          truths = tabulate (node_count T) (λ k. truth_word (truth T (first_present i) k));
          worklist = nothing-listed (node_count T) i;
          support = tabulate (atom_count T) (support T (told i));
          candidate = set_of J (atom_count T);
          missing = counted_agree (lacks (support_laid T (truths_laid T first))) (λ a. J a && eqb (support T (truth T J) a) 0) (atom_count T) lack i;
          false_roots = counted_set (false_root T (told i)) (root_count T);
        }
