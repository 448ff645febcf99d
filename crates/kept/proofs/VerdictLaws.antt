-- The verdict on a candidate names what demand 2 says; a fresh evaluation tells it.
-- Assumes nothing.
use Rattle.std.specs.Prelude.{ℕ, ◌<◌, ◌≤◌, ◌≡◌, Bool, cond, ◌&&◌, eqb, ltb, Some}
use Rattle.std.proofs.Common.{arith, ap, sym, ◌∙◌, ⊎_elim, true≢false}
use Rattle.std.proofs.Math.Path.{refl, ap₂}
use Rattle.std.proofs.Math.Bool.{true, false}
use borrow.Author.Tests.{eqb-true, eq-eqb, not-true, not-false, ltb-true, lt-ltb, le-ltb}
use Rattle.base.specs.Tests.{both, both_left, both_right, below_or}
use Rattle.base.specs.Places.{lowest, lowest_is, lowest-only, Lowest, count_none}
use Rattle.formula.specs.Satisfaction.{Interpretation}
use Rattle.kept.specs.CountedSet.{Lookup, empty, at, lookup, counted_set}
use Rattle.kept.proofs.CountedSetLaws.{count-zero, lookup_at, lookup_empty}
use Rattle.kept.specs.Tables.{Tables, atom_count, node_count, root_count, root_at, head_at, body_at}
use Rattle.kept.specs.Evaluation.{held, truth, body_true, supports, support, false_root, summary, fresh}
use Rattle.kept.specs.Verdict.{not_model, residual, stable, missing_atom, first_false, first_missing, verdict, judged, verdict_of}
use Rattle.kept.specs.Naming.{FirstFalse, AllTrue, Unproduced, FirstUnproduced, AllProduced, Right}

clash : {A : Type 0} (b : Bool) → b ≡ true → b ≡ false → A
clash b p q = absurd (true≢false (sym p ∙ q))

-- ---- support is 0 where no producer counts

support-zero : (T : Tables) (I : Interpretation) (a : ℕ) → support T (truth T I) a ≡ 0 → Unproduced T I a
unfolding support supports
support-zero T I a e p l h =
    let x : eqb (head_at T p) a && body_true (truth T I) (body_at T p) ≡ false = count-zero _ T.made e p l in
    rw (eq-eqb (head_at T p) a h) at x

zero-support : (T : Tables) (I : Interpretation) (a : ℕ) → Unproduced T I a → support T (truth T I) a ≡ 0
unfolding support supports
zero-support T I a u = count_none _ 0 T.made (λ p i l. go p (omega arith) (eqb (head_at T p) a) refl)
  where
    go : (p : ℕ) → p < T.made → (b : Bool) → eqb (head_at T p) a ≡ b → b && body_true (truth T I) (body_at T p) ≡ false
    go p l true e = u p l (eqb-true (head_at T p) a e)
    go p l false e = refl

missing_unproduced : (T : Tables) (I : Interpretation) (a : ℕ) → missing_atom T I a ≡ true → (I a ≡ true) × Unproduced T I a
unfolding missing_atom
missing_unproduced T I a e = (
  both_left (I a) (eqb (support T (truth T I) a) 0) e,
  support-zero T I a (eqb-true (support T (truth T I) a) 0 (both_right (I a) (eqb (support T (truth T I) a) 0) e)),
)

unproduced_missing : (T : Tables) (I : Interpretation) (a : ℕ) → I a ≡ true → Unproduced T I a → missing_atom T I a ≡ true
unfolding missing_atom
unproduced_missing T I a p u = both p (eq-eqb (support T (truth T I) a) 0 (zero-support T I a u))

-- ---- the lowest place of a test, or none

module _ (p : ℕ → Bool) (n : ℕ) where
  low : Lowest p 0 n (lowest p 0 n)
  low = lowest_is p 0 n

  lowest_here : lowest p 0 n < n → p (lowest p 0 n) ≡ true
  lowest_here l = low.here (omega arith)

  lowest_before : (j : ℕ) → j < lowest p 0 n → p j ≡ false
  lowest_before j l = low.before j (omega arith) l

  lowest_found : (k : ℕ) → k < n → p k ≡ true → ((j : ℕ) → j < k → p j ≡ false) → lowest p 0 n ≡ k
  lowest_found k l e h = sym (lowest-only p 0 n k (record { from = omega arith; within = omega arith; before = λ j a b. h j b; here = λ b. e }))

  lowest_none : n ≤ lowest p 0 n → (j : ℕ) → j < n → p j ≡ false
  lowest_none l j h = lowest_before j (omega arith)

  -- the lookup of its set
  abbrev pub lookup_of : Lookup
  lookup_of = cond (ltb (lowest p 0 n) n) (at (lowest p 0 n)) empty

  pub lookup-lowest : lookup n 0 (counted_set p n) ≡ lookup_of
  lookup-lowest = ⊎_elim
      (λ l. lookup_at p n 0 (lowest p 0 n) (omega arith) l (lowest_here l) lowest_before ∙ sym (found l))
      (λ l. lookup_empty p n 0 (lowest_none l) ∙ sym (lost l))
      (below_or (lowest p 0 n) n)
    where
      found : lowest p 0 n < n → lookup_of ≡ at (lowest p 0 n)
      found l = rw (lt-ltb (lowest p 0 n) n l)

      lost : n ≤ lowest p 0 n → lookup_of ≡ empty
      lost l = rw (le-ltb (lowest p 0 n) n l)

-- ---- the verdict

module _ (T : Tables) (I : Interpretation) where
  abbrev wrong : ℕ → Bool
  wrong = false_root T (truth T I)

  judged_found : (b c : Bool) (r a : ℕ) → (b ≡ true → root_at T r < node_count T)
      → judged T (cond b (at r) empty) (cond c (at a) empty) ≡ Some (cond b (not_model (root_at T r)) (cond c (residual a) stable))
  unfolding judged
  judged_found true c r a l = rw (lt-ltb (root_at T r) (node_count T) (l refl))
  judged_found false true r a l = refl
  judged_found false false r a l = refl

  -- a fresh evaluation tells it, if every root is a node
  pub verdict-fresh : ((r : ℕ) → r < root_count T → root_at T r < node_count T) → verdict_of T (fresh T I) ≡ Some (verdict T I)
  unfolding verdict_of fresh summary held verdict missing_atom
  verdict-fresh within =
      ap₂ (judged T) (lookup-lowest wrong (root_count T)) (lookup-lowest (missing_atom T I) (atom_count T))
      ∙ judged_found (ltb (first_false T I) (root_count T)) (ltb (first_missing T I) (atom_count T)) (first_false T I) (first_missing T I)
      (λ e. within (first_false T I) (ltb-true (first_false T I) (root_count T) e))

  named_root : first_false T I < root_count T → verdict T I ≡ not_model (root_at T (first_false T I))
  unfolding verdict
  named_root l = rw (lt-ltb (first_false T I) (root_count T) l)

  named_atom : root_count T ≤ first_false T I → first_missing T I < atom_count T → verdict T I ≡ residual (first_missing T I)
  unfolding verdict
  named_atom l m = rw (le-ltb (first_false T I) (root_count T) l, lt-ltb (first_missing T I) (atom_count T) m)

  named_stable : root_count T ≤ first_false T I → atom_count T ≤ first_missing T I → verdict T I ≡ stable
  unfolding verdict
  named_stable l m = rw (le-ltb (first_false T I) (root_count T) l, le-ltb (first_missing T I) (atom_count T) m)

  first_false_lem : first_false T I < root_count T → FirstFalse T I (first_false T I)
  unfolding false_root
  first_false_lem l = record {
    within = l;
    untrue = not-true (truth T I (root_at T (first_false T I))) (lowest_here wrong (root_count T) l);
    before = λ q m. not-false (truth T I (root_at T q)) (lowest_before wrong (root_count T) q m);
  }

  false_first : (r : ℕ) → FirstFalse T I r → first_false T I ≡ r
  unfolding false_root
  false_first r f = lowest_found wrong (root_count T) r f.within (rw f.untrue) (λ q l. rw (f.before q l))

  all_true_lem : root_count T ≤ first_false T I → AllTrue T I
  unfolding false_root
  all_true_lem l r m = not-false (truth T I (root_at T r)) (lowest_none wrong (root_count T) l r m)

  first_unproduced : first_missing T I < atom_count T → FirstUnproduced T I (first_missing T I)
  first_unproduced l =
      let here = missing_unproduced T I (first_missing T I) (lowest_here (missing_atom T I) (atom_count T) l) in
      record {
        within = l;
        present = here.0;
        lacking = here.1;
        before = λ j m p u. clash (missing_atom T I j) (unproduced_missing T I j p u) (lowest_before (missing_atom T I) (atom_count T) j m);
      }

  unproduced_first : (a : ℕ) → FirstUnproduced T I a → first_missing T I ≡ a
  unproduced_first a f =
      lowest_found (missing_atom T I) (atom_count T) a f.within (unproduced_missing T I a f.present f.lacking) (λ j l. go j l (missing_atom T I j) refl)
    where
      go : (j : ℕ) → j < a → (b : Bool) → missing_atom T I j ≡ b → missing_atom T I j ≡ false
      go j l true e = let m = missing_unproduced T I j e in absurd (f.before j l m.0 m.1)
      go j l false e = e

  all_produced : atom_count T ≤ first_missing T I → AllProduced T I
  all_produced l a m p u = clash (missing_atom T I a) (unproduced_missing T I a p u) (lowest_none (missing_atom T I) (atom_count T) l a m)

  pub verdict_right : Right T I (verdict T I)
  verdict_right = ⊎_elim untrue (λ l. ⊎_elim (lacking l) (sound l) (below_or (first_missing T I) (atom_count T))) (below_or (first_false T I) (root_count T))
    where
      untrue : first_false T I < root_count T → Right T I (verdict T I)
      untrue l =
          let f = first_false_lem l in
          rw (named_root l) (record {
            names_root = λ k e. (first_false T I, f, cc);
            root_named = λ s g. ap (λ r. not_model (root_at T r)) (false_first s g);
            names_atom = λ a e. let z : ◌≡◌ {A = ℕ} 0 1 = cc in absurd (omega arith);
            atom_named = λ a t g. clash (truth T I (root_at T (first_false T I))) (t (first_false T I) f.within) f.untrue;
            says_stable = λ e. let z : ◌≡◌ {A = ℕ} 0 1 = cc in absurd (omega arith);
            stable_said = λ t g. clash (truth T I (root_at T (first_false T I))) (t (first_false T I) f.within) f.untrue;
          })

      lacking : root_count T ≤ first_false T I → first_missing T I < atom_count T → Right T I (verdict T I)
      lacking l m =
          let f = first_unproduced m in
          rw (named_atom l m) (record {
            names_root = λ k e. let z : ◌≡◌ {A = ℕ} 0 1 = cc in absurd (omega arith);
            root_named = λ s g. absurd (omega (arith, false_first s g, g.within));
            names_atom = λ b e. let z : first_missing T I ≡ b = cc in (all_true_lem l, rw z at f);
            atom_named = λ b t g. ap residual (unproduced_first b g);
            says_stable = λ e. let z : ◌≡◌ {A = ℕ} 0 1 = cc in absurd (omega arith);
            stable_said = λ t g. absurd (g (first_missing T I) f.within f.present f.lacking);
          })

      sound : root_count T ≤ first_false T I → atom_count T ≤ first_missing T I → Right T I (verdict T I)
      sound l m =
          rw (named_stable l m) (record {
            names_root = λ k e. let z : ◌≡◌ {A = ℕ} 0 1 = cc in absurd (omega arith);
            root_named = λ s g. absurd (omega (arith, false_first s g, g.within));
            names_atom = λ b e. let z : ◌≡◌ {A = ℕ} 0 1 = cc in absurd (omega arith);
            atom_named = λ b t g. absurd (all_produced m b g.within g.present g.lacking);
            says_stable = λ e. (all_true_lem l, all_produced m);
            stable_said = λ t g. refl;
          })
