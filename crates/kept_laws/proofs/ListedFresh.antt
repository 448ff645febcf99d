-- A fresh check by the tables and by their listed words is the same.
-- Assumes nothing.
use Rattle.std.specs.Prelude.{Ok, Err, Option, Some, None}
use Prim.Native.Nat.{ℕ, zero, suc, ◌<◌, ◌≤◌, ◌+◌}
use native.Mathlib.Omega.{arith}
use mathlib.Core.Path.{◌≡◌, refl, ap, ap₂, sym, ◌∙◌}
use mathlib.Core.Logic.{⊎_elim}
use mathlib.Core.Bool.{Bool, false, not}
use lib.ListN.{get_or}
use Rattle.base.specs.Tests.{equal_or}
use Rattle.base.specs.Places.{count_agree}
use Rattle.base.specs.Rising.{rising, rising_at, rising_stays}
use Rattle.formula.specs.Satisfaction.{Interpretation}
use Rattle.theory.specs.Admission.{or_else, first_refusal, Admission, admitted}
use Rattle.theory.specs.Node.{node_at}
use Rattle.theory.specs.NodeTruth.{node_truth, node_truths}
use Rattle.theory.specs.Refusals.{not_both, first_agree}
use Rattle.theory.specs.declared.Refusal.TheVariants.{BadEntry}
use Rattle.kept.specs.Tables.{Tables, node_count, root_count, root_at, body_at}
use Rattle.kept.specs.Seen.{seen_by}
use Rattle.kept.specs.SeenLaws.{seen-is, seen_agree}
use Rattle.kept.specs.Worklist.{worklist_of}
use Rattle.kept.specs.Evaluation.{held, truth, body_true, supports, support, false_root, summary, fresh}
use Rattle.kept.specs.EntryLaws.{nodes_ok_lem, body_within, root_within}
use Rattle.kept.proofs.HeldLaws.{held_agree}
use Rattle.kept.specs.Verdict.{verdict, verdict_of}
use Rattle.kept.proofs.VerdictLaws.{verdict-fresh}
use Rattle.kept.specs.Check.{accepted, seen_entry, node_entry, producer_entry, root_entry, tables_admission, fresh_result}
use Rattle.kept_laws.specs.OptionLaws.{some_is}
use Rattle.kept_laws.specs.Listed.{listed_tables}
use Rattle.kept_laws.proofs.ListedReads.{seen-listed, head_listed, body_listed, root_listed}
use Rattle.kept_laws.proofs.ListedWalk.{verdict_of-listed}

-- a node whose truth is read has that truth, whatever the tables
truth-seen : (T : Tables) (J : Interpretation) (k : ℕ) (t : Bool) → k < node_count T → seen_by T J (truth T J) k ≡ Some t → truth T J k ≡ t
unfolding truth node_truths
truth-seen T J k t l e =
    rising_at false make (node_count T) k l
    ∙ seen-is T J below k t (seen_agree T J J below (truth T J) k (λ a m. refl) (λ o m. sym (rising_stays false make (node_count T) k o (omega arith) m)) ∙ e)
  where
    make : (ℕ → Bool) → ℕ → Bool
    make v k = node_truth J T.operands v (node_at T.nodes k)

    below : ℕ → Bool
    below o = get_or (rising false make k) o false

module _ (T : Tables) (J : Interpretation) where
  -- ---- the nodes: the same one is refused first, and truths agree below it

  abbrev AgreeBelow : ℕ → Type 0
  AgreeBelow n = (k : ℕ) → k < n → truth (listed_tables T) J k ≡ truth T J k

  nodes_listed : (i n : ℕ) → i + n ≡ node_count T → AgreeBelow i
      → (first_refusal (node_entry (listed_tables T) J) i n ≡ first_refusal (node_entry T J) i n) × (first_refusal (node_entry T J) i n ≡ admitted → AgreeBelow (node_count T))
  unfolding first_refusal node_entry
  nodes_listed i zero s h = (refl, λ e k l. h k (omega arith))
  nodes_listed i (suc n) s h = go (seen_by T J (truth T J) i) refl (nodes_listed (i + 1) n (omega arith))
    where
      same : seen_by (listed_tables T) J (truth (listed_tables T) J) i ≡ seen_by T J (truth T J) i
      same =
          seen-listed T J (truth (listed_tables T) J) i (omega arith)
          ∙ seen_agree T J J (truth (listed_tables T) J) (truth T J) i (λ a l. refl) h

      here : (t : Bool) → seen_by T J (truth T J) i ≡ Some t → truth (listed_tables T) J i ≡ truth T J i
      here t e = truth-seen (listed_tables T) J i t (omega arith) (same ∙ e) ∙ sym (truth-seen T J i t (omega arith) e)

      next : (t : Bool) → seen_by T J (truth T J) i ≡ Some t → AgreeBelow (i + 1)
      next t e k l = ⊎_elim (λ q. rw q (here t e)) (λ ne. h k (omega arith)) (equal_or k i)

      go : (o : Option Bool) → seen_by T J (truth T J) i ≡ o
          → (AgreeBelow (i + 1)
          → (first_refusal (node_entry (listed_tables T) J) (i + 1) n ≡ first_refusal (node_entry T J) (i + 1) n) × (first_refusal (node_entry T J) (i + 1) n ≡ admitted → AgreeBelow (node_count T)))
          → (or_else (seen_entry i (seen_by (listed_tables T) J (truth (listed_tables T) J) i)) (first_refusal (node_entry (listed_tables T) J) (i + 1) n)
          ≡ or_else (seen_entry i (seen_by T J (truth T J) i)) (first_refusal (node_entry T J) (i + 1) n))
          × (or_else (seen_entry i (seen_by T J (truth T J) i)) (first_refusal (node_entry T J) (i + 1) n) ≡ admitted → AgreeBelow (node_count T))
      go None e ih = rw (same, e) (refl, λ x. absurd (not_both (BadEntry i) x))
      go (Some t) e ih = rw (same, e) (ih (next t e))

  module _ (few : T.made ≤ root_count T) where
    -- ---- producers and roots

    producer-listed : (p : ℕ) → p < T.made → producer_entry (listed_tables T) p ≡ producer_entry T p
    unfolding producer_entry
    producer-listed p l = rw (head_listed T p (omega arith), body_listed T p (omega arith))

    root_entry-listed : (r : ℕ) → r < root_count T → root_entry (listed_tables T) r ≡ root_entry T r
    unfolding root_entry
    root_entry-listed r l = rw (root_listed T r l)

    admission-listed : tables_admission (listed_tables T) J ≡ tables_admission T J
    unfolding tables_admission
    admission-listed =
        rw (
          (nodes_listed 0 (node_count T) (omega arith) (λ k l. absurd (omega arith))).0,
          first_agree (producer_entry (listed_tables T)) (producer_entry T) 0 T.made (λ p a l. producer-listed p (omega arith)),
          first_agree (root_entry (listed_tables T)) (root_entry T) 0 (root_count T) (λ r a l. root_entry-listed r (omega arith)),
        )

    -- ---- what a fresh check leaves

    module _ (ok : tables_admission T J ≡ admitted) where
      truths_agree : AgreeBelow (node_count T)
      truths_agree = (nodes_listed 0 (node_count T) (omega arith) (λ k l. absurd (omega arith))).1 (nodes_ok_lem T J ok)

      root_within_listed : (r : ℕ) → r < root_count T → root_at (listed_tables T) r < node_count T
      root_within_listed r l = rw (root_listed T r l) (root_within T J ok r l)

      body_agree : (b : ℕ) → b ≤ node_count T → body_true (truth (listed_tables T) J) b ≡ body_true (truth T J) b
      unfolding body_true
      body_agree zero l = refl
      body_agree (suc b) l = truths_agree b (omega arith)

      supports_agree : (a p : ℕ) → p < T.made → supports (listed_tables T) (truth (listed_tables T) J) a p ≡ supports T (truth T J) a p
      unfolding supports
      supports_agree a p l = rw (head_listed T p (omega arith), body_listed T p (omega arith), body_agree (body_at T p) (body_within T J ok p l))

      support_agree : (a : ℕ) → support (listed_tables T) (truth (listed_tables T) J) a ≡ support T (truth T J) a
      unfolding support
      support_agree a =
          count_agree (supports (listed_tables T) (truth (listed_tables T) J) a) (supports T (truth T J) a) 0 T.made (λ p i l. supports_agree a p (omega arith))

      roots_agree : (r : ℕ) → r < root_count T → false_root (listed_tables T) (truth (listed_tables T) J) r ≡ false_root T (truth T J) r
      unfolding false_root
      roots_agree r l = ap not (ap (truth (listed_tables T) J) (root_listed T r l) ∙ truths_agree (root_at T r) (root_within T J ok r l))

      fresh-listed : fresh (listed_tables T) J ≡ fresh T J
      unfolding fresh summary held
      fresh-listed =
          held_agree T (truth (listed_tables T) J) (truth T J) (worklist_of (λ k. false) (node_count T)) (support (listed_tables T) (truth (listed_tables T) J)) (support T (truth T J)) J J
          (false_root (listed_tables T) (truth (listed_tables T) J)) (false_root T (truth T J)) truths_agree (λ a l. support_agree a) (λ a l. refl) roots_agree

      verdict-listed : verdict (listed_tables T) J ≡ verdict T J
      verdict-listed =
          some_is (verdict (listed_tables T) J) (verdict T J)
          (sym (verdict-fresh (listed_tables T) J root_within_listed) ∙ verdict_of-listed T (fresh (listed_tables T) J) ∙ ap (verdict_of T) fresh-listed ∙ verdict-fresh T J (root_within T J ok))

    pub fresh_result-listed : fresh_result (listed_tables T) J (tables_admission (listed_tables T) J) ≡ fresh_result T J (tables_admission T J)
    unfolding fresh_result
    fresh_result-listed = rw admission-listed (go (tables_admission T J) refl)
      where
        go : (a : Admission) → tables_admission T J ≡ a → fresh_result (listed_tables T) J a ≡ fresh_result T J a
        go (Ok u) e = ap₂ (λ v d. accepted v (node_count T) d) (verdict-listed e) (fresh-listed e)
        go (Err r) e = refl
