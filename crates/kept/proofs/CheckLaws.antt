-- A check by consistent tables, on a zeroed evaluation and on that of another candidate.
-- Assumes nothing.
use Rattle.std.specs.Prelude.{ℕ, ◌≤◌, ◌+◌, ◌-◌, ◌*◌, ◌≡◌, Bool, eqb, leb, length}
use Rattle.std.proofs.Common.{arith, add-zero, ap, ap₂, sym, ◌∙◌}
use Rattle.std.proofs.Math.Path.{refl}
use Rattle.std.proofs.Math.Bool.{true, false, cond}
use borrow.Author.Tests.{eq-eqb, lt-ltb, le-ltb, le-leb}
use Rattle.base.specs.Tests.{both}
use Rattle.base.specs.Places.{places, count, count-split, count_agree, count_none}
use Rattle.formula.specs.Satisfaction.{Interpretation}
use Rattle.formula.specs.Passes.{Within}
use Rattle.theory.specs.Admission.{first_refusal, admitted}
use Rattle.theory.specs.Refusals.{all_admitted}
use Rattle.words.specs.Changed.{unlike}
use Rattle.words.specs.Sets.{member}
use Rattle.kept.specs.SetOf.{words32, set_of}
use Rattle.kept.specs.SetOfLaws.{member_below, member_above, length-set_of}
use Rattle.kept.proofs.CountedSetLaws.{unlike_same}
use Rattle.kept.specs.Tables.{Tables, atom_count, node_count, root_count, root_at, head_at, body_at}
use Rattle.kept.specs.Evaluation.{zeroed, held, truth, summary, fresh}
use Rattle.kept.specs.Verdict.{verdict}
use Rattle.kept.specs.Changed.{changed_atoms}
use Rattle.kept.specs.Dirty.{dirty}
use Rattle.kept.specs.Walk.{kept_walk}
use Rattle.kept.specs.Check.{accepted, node_entry, producer_entry, root_entry, tables_admission, fresh_result, kept_result, changes, most, is_kept, result}
use Rattle.kept.specs.Consistent.{Consistent}
use Rattle.kept.specs.SeenLaws.{seen-sound}
use Rattle.kept.proofs.StartLaws.{kept_fresh}
use Rattle.kept.proofs.VerdictLaws.{verdict-fresh}

outside_false : (A : ℕ) (J : Interpretation) → Within A J → (a : ℕ) → A ≤ a → J a ≡ false
outside_false A J w a l = go (J a) refl
  where
    go : (b : Bool) → J a ≡ b → J a ≡ false
    go true e = absurd (omega (arith, w a e))
    go false e = e

-- the places at which the words of a fresh evaluation's candidate differ are the changed atoms
pub changes-fresh : (T : Tables) (I J : Interpretation) → Within (atom_count T) J → changes J (fresh T I) ≡ changed_atoms T I J
unfolding changes fresh summary held changed_atoms
changes-fresh T I J w =
    ap (λ n. count differs 0 n) size ∙ count-split differs 0 A (words32 A * 32 - A)
    ∙ ap₂ (λ m n. m + n) (count_agree differs (λ a. unlike (I a) (J a)) 0 A (λ a i l. ap (λ b. unlike b (J a)) (member_below I A a (omega arith)))) none
    ∙ add-zero (count (λ a. unlike (I a) (J a)) 0 A)
  where
    A : ℕ
    A = atom_count T

    differs : ℕ → Bool
    differs a = unlike (member 32 (set_of I A) a) (J a)

    size : length (set_of I A) * 32 ≡ A + (words32 A * 32 - A)
    size = rw (length-set_of I A) (omega arith)

    none : count differs (0 + A) (words32 A * 32 - A) ≡ 0
    none = count_none differs (0 + A) (words32 A * 32 - A) (λ a i l. unlike_same _ (J a) (member_above I A a (omega arith) ∙ sym (outside_false A J w a (omega arith))))

module _ (T : Tables) (good : Consistent T) where
  nodes_admitted : (J : Interpretation) → first_refusal (node_entry T J) 0 (node_count T) ≡ admitted
  unfolding node_entry
  nodes_admitted J = all_admitted (node_entry T J) 0 (node_count T) (λ k a b. rw (seen-sound T J (truth T J) k (good.node k (omega arith))))

  producers_admitted : first_refusal (producer_entry T) 0 T.made ≡ admitted
  unfolding producer_entry
  producers_admitted =
      all_admitted (producer_entry T) 0 T.made
      (λ p a b. rw (both (lt-ltb (head_at T p) (atom_count T) (good.head p (omega arith))) (le-leb (body_at T p) (node_count T) (good.body p (omega arith)))))

  roots_admitted : first_refusal (root_entry T) 0 (root_count T) ≡ admitted
  unfolding root_entry
  roots_admitted = all_admitted (root_entry T) 0 (root_count T) (λ r a b. rw (lt-ltb (root_at T r) (node_count T) (good.root r (omega arith))))

  pub tables_admitted : (J : Interpretation) → tables_admission T J ≡ admitted
  unfolding tables_admission
  tables_admitted J = rw (nodes_admitted J, producers_admitted, roots_admitted)

  fresh_result_lem : (J : Interpretation) → fresh_result T J (tables_admission T J) ≡ accepted (verdict T J) (node_count T) (fresh T J)
  unfolding fresh_result
  fresh_result_lem J = rw (tables_admitted J)

  kept_result_lem : (I J : Interpretation) → kept_result T (kept_walk T J (fresh T I)) ≡ accepted (verdict T J) (length (places (dirty T I J) 0 (node_count T))) (fresh T J)
  unfolding kept_result
  kept_result_lem I J = rw (kept_fresh T good I J, verdict-fresh T J good.root)

  module _ (floor divisor : ℕ) where
    pub not-kept : (J : Interpretation) → is_kept floor divisor T J (zeroed T) ≡ false
    unfolding is_kept zeroed
    not-kept J = refl

    pub result_zeroed : (J : Interpretation) → result floor divisor T J (zeroed T) ≡ accepted (verdict T J) (node_count T) (fresh T J)
    unfolding result is_kept zeroed
    result_zeroed J = rw (le-ltb (root_count T) T.made good.few) (fresh_result_lem J)

    -- how many nodes it goes over
    unfoldable pub gone_over : Interpretation → Interpretation → ℕ
    gone_over I J = cond (leb (changed_atoms T I J) (most floor divisor T)) (count (dirty T I J) 0 (node_count T)) (node_count T)

    held_state : (I : Interpretation) → eqb (fresh T I).state 1 ≡ true
    unfolding fresh summary held
    held_state I = refl

    held_stamp : (I : Interpretation) → eqb (fresh T I).stamp T.counts.stamp ≡ true
    unfolding fresh summary held
    held_stamp I = eq-eqb T.counts.stamp T.counts.stamp refl

    pub is_kept_lem : (I J : Interpretation) → Within (atom_count T) J → is_kept floor divisor T J (fresh T I) ≡ leb (changed_atoms T I J) (most floor divisor T)
    unfolding is_kept
    is_kept_lem I J w = rw (held_state I, held_stamp I, changes-fresh T I J w)

    pub result_fresh : (I J : Interpretation) → Within (atom_count T) J → result floor divisor T J (fresh T I) ≡ accepted (verdict T J) (gone_over I J) (fresh T J)
    unfolding result gone_over count
    result_fresh I J w = rw (le-ltb (root_count T) T.made good.few, is_kept_lem I J w) (go (leb (changed_atoms T I J) (most floor divisor T)))
      where
        go : (b : Bool) → cond b (kept_result T (kept_walk T J (fresh T I))) (fresh_result T J (tables_admission T J))
            ≡ accepted (verdict T J) (cond b (length (places (dirty T I J) 0 (node_count T))) (node_count T)) (fresh T J)
        go true = kept_result_lem I J
        go false = fresh_result_lem J
