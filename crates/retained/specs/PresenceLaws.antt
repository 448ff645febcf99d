-- Whether an atom is missing: by its support, if it is to be in the candidate.
-- Assumes nothing.
use Rattle.std.specs.Prelude.{ℕ, ◌<◌, ◌≤◌, ◌+◌, Bool, true, false, ◌&&◌, List, eqb, length, get_or, Option, Some, None}
use Rattle.std.proofs.Common.{arith, ap, ◌∙◌}
use Rattle.std.proofs.Math.Path.{◌≡◌, refl, sym}
use Rattle.kept.specs.CountedSet.{and_then, CountedSet, with_member}
use Rattle.kept.specs.Tables.{Tables, atom_count}
use Rattle.kept.specs.Evaluation.{Evaluation}
use Rattle.kept.specs.Parts.{with_support}
use Rattle.kept.specs.Layout.{of_words, support_start, used}
use Rattle.kept.specs.LayoutLaws.{Fits}
use Rattle.kept_laws.specs.OptionLaws.{some_is, then_some}
use Rattle.kept_laws.specs.FitsLaws.{length_members}
use Rattle.kept_laws.specs.Written.{get_support}
use Rattle.kept_laws.specs.Wrote.{Wrote, Changing}
use Rattle.retained.specs.Changes.{missing_turned, presence_turned}

module _ (T : Tables) where
  pub missing_fits : (e : Evaluation) (a : ℕ) (x : Bool) (m : CountedSet) → with_member (atom_count T) e.missing a x ≡ Some m → Fits T e → Fits T (with_support e e.support m)
  missing_fits e a x m h f =
      record {
        truths = f.truths;
        worklist = f.worklist;
        support = f.support;
        candidate = f.candidate;
        missing = length_members (atom_count T) e.missing a x m h ∙ f.missing;
        false_roots = f.false_roots;
        groups = f.groups;
      }

  -- what turning the missing atom gives
  pub missing_turned_lem : (e d : Evaluation) (a : ℕ) (x : Bool) → missing_turned T a x e ≡ Some d → (m : CountedSet) × (with_member (atom_count T) e.missing a x ≡ Some m) × (d ≡ with_support e e.support m)
  unfolding missing_turned
  missing_turned_lem e d a x h =
      let p = then_some (with_member (atom_count T) e.missing a x) (λ m. Some (with_support e e.support m)) d h in
      (p.0, p.1, sym (some_is (with_support e e.support p.0) d p.2))

  pub missing_not : (e : Evaluation) (a : ℕ) (x : Bool) → missing_turned T a x e ≡ None → with_member (atom_count T) e.missing a x ≡ None
  unfolding missing_turned
  missing_not e a x h = go (with_member (atom_count T) e.missing a x) h
    where
      go : (o : Option CountedSet) → and_then o (λ m. Some (with_support e e.support m)) ≡ None → o ≡ None
      go None h = refl
      go (Some m) h = let z : ◌≡◌ {A = ℕ} 0 1 = cc in absurd (omega arith)

  module _ (ws : List ℕ) (long : used T ≤ length ws) (a : ℕ) (l : a < atom_count T) (x : Bool) where
    abbrev e : Evaluation
    e = of_words T ws

    -- as the code finds it: by the word of its support, if it is to be in
    pub lacking_in : (lacking : Bool) → x ≡ true → lacking ≡ eqb (get_or ws (support_start T + a) 0) 0 → lacking ≡ x && eqb (get_or e.support a 0) 0
    lacking_in lacking p q = q ∙ ap (λ n. eqb n 0) (get_support T ws long a l) ∙ ap (λ b. b && eqb (get_or e.support a 0) 0) (sym p)

    pub lacking_out : (lacking : Bool) → x ≡ false → lacking ≡ x → lacking ≡ x && eqb (get_or e.support a 0) 0
    lacking_out lacking p q = q ∙ p ∙ ap (λ b. b && eqb (get_or e.support a 0) 0) (sym p)

    pub presence_is : (lacking : Bool) (ok : Changing) (after : List ℕ) → lacking ≡ x && eqb (get_or e.support a 0) 0 → Wrote T ws (missing_turned T a lacking e) ok after
        → Wrote T ws (presence_turned T a x e) ok after
    unfolding presence_turned
    presence_is lacking ok after q w = rw (sym q) w
