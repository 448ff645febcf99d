-- An atom's support: its count one up or down, then whether it is missing.
-- Assumes nothing.
use Rattle.std.specs.Prelude.{ℕ, ◌<◌, ◌≤◌, ◌+◌, ◌-◌, Bool, true, false, ◌&&◌, ◌||◌, List, length, get_or, Option, Some, None}
use Rattle.std.proofs.Common.{arith, ◌∙◌}
use Rattle.std.proofs.Math.Path.{◌≡◌, refl, ap, sym}
use Rattle.std.proofs.Math.Bool.{and-false}
use Rattle.std.proofs.Math.Dec.{eqb}
use Rattle.std.proofs.Math.ListN.{set}
use borrow.Author.Tests.{ne_eqb}
use Rattle.base.specs.Tests.{and-true}
use Rattle.kept.specs.CountedSet.{CountedSet, and_then, moved}
use Rattle.kept.specs.Tables.{Tables, atom_count}
use Rattle.kept.specs.Evaluation.{Evaluation}
use Rattle.kept.specs.Parts.{with_support}
use Rattle.kept.specs.Step.{missing_by, support_moved}
use Rattle.kept.specs.Layout.{of_words, written, support_start, used}
use Rattle.kept.specs.LayoutLaws.{Fits, fits_of}
use Rattle.kept_laws.specs.FitsLaws.{missing_long}
use Rattle.kept_laws.specs.OptionLaws.{some_is, then_some}
use Rattle.kept_laws.specs.Written.{written_same, put_support, get_support}
use Rattle.kept_laws.specs.Wrote.{Wrote, beside_same, wrote_some, wrote_none, wrote_done, wrote_out_of_range, Changing, done, out_of_range}
use Rattle.node_truth.specs.InWords.{present_in}
use Rattle.node_truth.specs.InWordsLaws.{present_in_lem}
use Rattle.retained.specs.Changes.{missing_turned, missing_moved}

module _ (T : Tables) (ws : List ℕ) (long : used T ≤ length ws) (a : ℕ) (l : a < atom_count T) where
  abbrev e : Evaluation
  e = of_words T ws

  -- ---- whether it is missing, as its support goes from s to n

  missing_fits : (s n : ℕ) (m : CountedSet) → missing_by T a s n e ≡ Some m → Fits T (with_support e e.support m)
  missing_fits s n m h =
      let f = fits_of T ws long in
      record {
        truths = f.truths;
        worklist = f.worklist;
        support = f.support;
        candidate = f.candidate;
        missing = missing_long T a s n e m h ∙ f.missing;
        false_roots = f.false_roots;
        groups = f.groups;
      }

  module _ (s n : ℕ) where
    -- neither is 0: nothing is looked at
    pub missing_stays : (s ≡ 0 → ⊥) → (n ≡ 0 → ⊥) → Wrote T ws (missing_moved T a s n e) done ws
    unfolding missing_moved missing_by
    missing_stays x y = wrote_some T ws (missing_moved T a s n e) ws e (rw (ne_eqb s 0 x, ne_eqb n 0 y)) (sym (written_same T ws long))

    -- one of them is
    pub missing_moves : (lacking : Bool) (ok : Changing) (mid : List ℕ) → eqb s 0 || eqb n 0 ≡ true → lacking ≡ present_in T.counts ws a && eqb n 0
        → Wrote T ws (missing_turned T a lacking e) ok mid → Wrote T ws (missing_moved T a s n e) ok mid
    unfolding missing_moved missing_by missing_turned
    missing_moves lacking ok mid b is w = rw (b, sym (is ∙ ap (λ p. p && eqb n 0) (present_in_lem T ws long a l))) w

  -- ---- its support

  module _ (t : Bool) where
    -- the count as the code loads it
    counted_in : (o : Option ℕ) → o ≡ moved T.made t (get_or ws (support_start T + a) 0) → moved T.made t (get_or e.support a 0) ≡ o
    counted_in o q = ap (moved T.made t) (sym (get_support T ws long a l)) ∙ sym q

    pub support_astray : None ≡ moved T.made t (get_or ws (support_start T + a) 0) → Wrote T ws (support_moved T t a e) out_of_range ws
    unfolding support_moved
    support_astray q = wrote_none T ws (support_moved T t a e) ws (rw (counted_in None q)) (beside_same T ws)

    module _ (n : ℕ) (q : Some n ≡ moved T.made t (get_or ws (support_start T + a) 0)) (mid : List ℕ) (ok : Changing)
        (w : Wrote T ws (missing_moved T a (get_or ws (support_start T + a) 0) n e) ok mid) where
      abbrev s : ℕ
      s = get_or ws (support_start T + a) 0

      -- the support that the evaluation has
      loaded : get_or e.support a 0 ≡ s
      loaded = sym (get_support T ws long a l)

      put : ℕ → CountedSet → Option Evaluation
      put k m = Some (with_support e (set e.support a k) m)

      pub support_none : ok ≡ out_of_range → Wrote T ws (support_moved T t a e) out_of_range mid
      unfolding support_moved missing_moved
      support_none p =
          let r = wrote_out_of_range T ws (missing_moved T a s n e) mid ok w p in
          wrote_none T ws (support_moved T t a e) mid (rw (loaded, sym q, not_then (missing_by T a s n e) r.0)) r.1
        where
          not_then : (o : Option CountedSet) → and_then o (λ m. Some (with_support e e.support m)) ≡ None → o ≡ None
          not_then None h = refl
          not_then (Some m) h = let z : ◌≡◌ {A = ℕ} 0 1 = cc in absurd (omega arith)

      pub support_done : ok ≡ done → Wrote T ws (support_moved T t a e) done (set mid (support_start T + a) n)
      unfolding support_moved missing_moved put
      support_done p =
          let r = wrote_done T ws (missing_moved T a s n e) mid ok w p in
          let m = then_some (missing_by T a s n e) (λ m. Some (with_support e e.support m)) r.0 r.1 in
          let was : mid ≡ written T ws (with_support e e.support m.0) = r.2 ∙ ap (written T ws) (sym (some_is (with_support e e.support m.0) r.0 m.2)) in
          wrote_some T ws (support_moved T t a e) (set mid (support_start T + a) n) (with_support e (set e.support a n) m.0)
          (ap (λ x. and_then (moved T.made t x) (λ k. and_then (missing_by T a x k e) (put k))) loaded
          ∙ ap (λ o. and_then o (λ k. and_then (missing_by T a s k e) (put k))) (sym q)
          ∙ ap (λ o. and_then o (put n)) m.1)
          (ap (λ x. set x (support_start T + a) n) was ∙ put_support T ws long (with_support e e.support m.0) (missing_fits s n m.0 m.1) a n l)

-- an atom that gains its first producer is not missing
pub gained : (p : Bool) (n : ℕ) → false ≡ p && eqb (n + 1) 0
gained p n = sym (rw (ne_eqb (n + 1) 0 (λ z. omega arith)) (and-false p))

-- one that loses its last is, if it is in the candidate
pub deserted : (p x : Bool) (n : ℕ) → n ≡ 1 → x ≡ p → x ≡ p && eqb (n - 1) 0
deserted p x n e h = rw e (h ∙ sym (and-true p))
