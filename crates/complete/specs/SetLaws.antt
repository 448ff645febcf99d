-- Missing atoms and false roots, gathered rising: what the loops keep, and what each of their turns gives.
-- Assumes nothing.
use Rattle.std.specs.Prelude.{ℕ, suc, ◌<◌, ◌≤◌, ◌≡◌, Bool, cond, Some}
use Rattle.std.proofs.Common.{arith, ◌∙◌, ⊎_elim, lt-ltb, le-ltb}
use Rattle.std.proofs.Math.Path.{refl, ap, sym}
use Rattle.std.proofs.Math.Logic.{inl, inr}
use Rattle.std.proofs.Math.Bool.{true, false}
use Rattle.std.proofs.Math.Dec.{ltb}
use Rattle.base.specs.Tests.{below_or}
use Rattle.base.specs.Places.{Lowest}
use Rattle.kept.specs.SetOfLaws.{length-set_of}
use Rattle.kept.specs.CountedSet.{counted_set, with_member}
use Rattle.kept.proofs.CountedSetLaws.{counted_agree}
use Rattle.kept.specs.Tables.{Tables, atom_count, node_count, root_count, root_at}
use Rattle.kept.specs.Evaluation.{Evaluation, truth_at, no_members, false_root}
use Rattle.kept.specs.Parts.{with_support, with_false_roots}
use Rattle.kept.specs.Step.{root_turned}
use Rattle.kept.specs.Check.{root_entry}
use Rattle.kept.specs.LayoutLaws.{Fits}
use Rattle.kept_laws.specs.Filling.{up_to, gathered_none, gathered_next, gathered_all}
use Rattle.retained.specs.Changes.{missing_turned}
use Rattle.complete.specs.Phases.{lacks, missing_laid, root_laid, roots_laid}
use Rattle.complete.specs.Runs.{Turn}

-- no member from k up to m
gathered_jump : (f : ℕ → Bool) (n k m : ℕ) → k ≤ m → ((j : ℕ) → k ≤ j → j < m → f j ≡ false) → counted_set (up_to f k) n ≡ counted_set (up_to f m) n
unfolding up_to
gathered_jump f n k m l h = counted_agree (up_to f k) (up_to f m) n (λ j i. ⊎_elim
    (λ p. rw (lt-ltb j k p, lt-ltb j m (omega arith)))
    (λ p. rw (le-ltb j k p) (⊎_elim (λ q. rw (lt-ltb j m q) (sym (h j p q))) (λ q. rw (le-ltb j m q)) (below_or j m)))
    (below_or j k))

-- past all members
gathered_past : (f : ℕ → Bool) (n k : ℕ) → n ≤ k → counted_set (up_to f k) n ≡ counted_set f n
unfolding up_to
gathered_past f n k l = counted_agree (up_to f k) f n (λ j i. rw (lt-ltb j k (omega arith)))

-- ---- false roots

module _ (T : Tables) (e : Evaluation) where
  abbrev is_false : ℕ → Bool
  is_false = false_root T (truth_at e)

  -- at the positions below p
  unfoldable pub failed : ℕ → Evaluation
  failed p = with_false_roots e (counted_set (up_to is_false p) (root_count T))

  pub failed_none : e.false_roots ≡ no_members (root_count T) → failed 0 ≡ e
  unfolding failed
  failed_none z = ap (with_false_roots e) (gathered_none is_false (root_count T) ∙ sym z)

  pub failed_all : failed (root_count T) ≡ roots_laid T e
  unfolding failed roots_laid
  failed_all = ap (with_false_roots e) (gathered_all is_false (root_count T))

  pub failed_fits : Fits T e → (p : ℕ) → Fits T (failed p)
  unfolding failed counted_set
  failed_fits fits p =
      record {
        truths = fits.truths;
        worklist = fits.worklist;
        support = fits.support;
        candidate = fits.candidate;
        missing = fits.missing;
        false_roots = length-set_of (up_to is_false p) (root_count T);
        groups = fits.groups;
      }

  failed_next : (p : ℕ) → p < root_count T → (b : Bool) → truth_at e (root_at T p) ≡ b → cond (truth_at e (root_at T p)) (Some (failed p)) (root_turned T false p (failed p)) ≡ Some (failed (suc p))
  unfolding failed root_turned false_root
  failed_next p l true q = rw q (ap (λ s. Some (with_false_roots e s)) (gathered_jump is_false (root_count T) p (suc p) (omega arith) (λ j a b. none j (omega arith))))
    where
      none : (j : ℕ) → j ≡ p → is_false j ≡ false
      none j i = rw (i, q)
  failed_next p l false q =
      let is : is_false p ≡ true = rw q in
      let next : with_member (root_count T) (counted_set (up_to is_false p) (root_count T)) p true ≡ Some (counted_set (up_to is_false (suc p)) (root_count T)) =
      rw is at (gathered_next is_false (root_count T) p l) in
      rw (q, next)

  pub failed_turn : (p : ℕ) → p < root_count T → Turn failed (root_entry T) (root_laid T) (λ j. 0) p
  unfolding root_entry root_laid failed
  failed_turn p l = go (ltb (root_at T p) (node_count T)) refl
    where
      go : (b : Bool) → ltb (root_at T p) (node_count T) ≡ b → Turn failed (root_entry T) (root_laid T) (λ j. 0) p
      go true q = inl (rw q, rw q (failed_next p l (truth_at e (root_at T p)) refl))
      go false q = inr (rw q, rw q)

-- ---- missing atoms

module _ (T : Tables) (e : Evaluation) where
  -- below a
  unfoldable pub lacking : ℕ → Evaluation
  lacking a = with_support e e.support (counted_set (up_to (lacks e) a) (atom_count T))

  pub lacking_none : e.missing ≡ no_members (atom_count T) → lacking 0 ≡ e
  unfolding lacking
  lacking_none z = ap (with_support e e.support) (gathered_none (lacks e) (atom_count T) ∙ sym z)

  pub lacking_all : (a : ℕ) → atom_count T ≤ a → lacking a ≡ missing_laid T e
  unfolding lacking missing_laid
  lacking_all a l = ap (with_support e e.support) (gathered_past (lacks e) (atom_count T) a l)

  pub lacking_fits : Fits T e → (a : ℕ) → Fits T (lacking a)
  unfolding lacking counted_set
  lacking_fits fits a =
      record {
        truths = fits.truths;
        worklist = fits.worklist;
        support = fits.support;
        candidate = fits.candidate;
        missing = length-set_of (up_to (lacks e) a) (atom_count T);
        false_roots = fits.false_roots;
        groups = fits.groups;
      }

  -- atom a lacks support
  pub lacking_next : (a : ℕ) → a < atom_count T → lacks e a ≡ true → missing_turned T a true (lacking a) ≡ Some (lacking (suc a))
  unfolding lacking missing_turned
  lacking_next a l is =
      let next : with_member (atom_count T) (counted_set (up_to (lacks e) a) (atom_count T)) a true ≡ Some (counted_set (up_to (lacks e) (suc a)) (atom_count T)) =
      rw is at (gathered_next (lacks e) (atom_count T) a l) in
      rw next

  -- r is the next that does
  pub lacking_jump : (i n r : ℕ) → Lowest (lacks e) i n r → lacking i ≡ lacking r
  unfolding lacking
  lacking_jump i n r p = ap (with_support e e.support) (gathered_jump (lacks e) (atom_count T) i r p.from p.before)
