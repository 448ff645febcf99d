-- Atoms turned one after the other are these atoms moved, once the candidate has them: nothing else reads the candidate.
-- Assumes nothing.
use Prim.Native.Nat.{ℕ}
use Rattle.std.specs.Prelude.{◌≡◌, Bool, true, false, cond, ◌&&◌, ltb, length, get_or, Option, Some, None}
use Rattle.std.proofs.Math.Path.{refl, ap}
use Rattle.std.proofs.Common.{sym, ◌∙◌}
use mathlib.Core.List.{List, [], ◌∷◌}
use Rattle.std.proofs.Math.Dec.{eqb}
use Rattle.formula.specs.Satisfaction.{Interpretation}
use Rattle.kept.specs.CountedSet.{and_then, CountedSet, with_bit, with_member}
use Rattle.kept.specs.Worklist.{Worklist, with_node}
use Rattle.kept.specs.Tables.{Tables, atom_count, node_count, atom_nodes_at}
use Rattle.kept.specs.Evaluation.{Evaluation}
use Rattle.kept.specs.Parts.{with_worklist, with_support, with_candidate}
use Rattle.kept.specs.Step.{entered}
use Rattle.kept.specs.Start.{all_entered, atom_turned}
use Rattle.kept.specs.LayoutLaws.{Fits}
use Rattle.kept_laws.specs.FitsLaws.{entered_all_fits}
use Rattle.kept_laws.specs.OptionLaws.{then_some}
use Rattle.kept_laws.specs.StartChanged.{turned_candidate, all_turned}
use Rattle.retained.specs.Changes.{missing_turned, presence_turned}
use Rattle.retained.specs.PresenceLaws.{missing_fits, missing_turned_lem}
use Rattle.start.specs.Moved.{atom_moved, all_moved, bits_laid}

-- with another candidate
abbrev pub over : Evaluation → List ℕ → Evaluation
over e c = with_candidate e c e.missing

pub over_fits : (T : Tables) (e : Evaluation) (c : List ℕ) → length c ≡ length e.candidate → Fits T e → Fits T (over e c)
over_fits T e c l f =
    record { truths = f.truths; worklist = f.worklist; support = f.support; candidate = l ∙ f.candidate; missing = f.missing; false_roots = f.false_roots; groups = f.groups }

module _ (T : Tables) where
  -- ---- nodes entered

  entered_over : (k : ℕ) (e : Evaluation) (c : List ℕ) → entered T k (over e c) ≡ and_then (entered T k e) (λ d. Some (over d c))
  unfolding entered
  entered_over k e c = go (with_node (node_count T) e.worklist k)
    where
      go : (o : Option Worklist) → and_then o (λ w. Some (with_worklist (over e c) w)) ≡ and_then (and_then o (λ w. Some (with_worklist e w))) (λ d. Some (over d c))
      go None = refl
      go (Some w) = refl

  all_over : (ks : List ℕ) (e : Evaluation) (c : List ℕ) → all_entered T (over e c) ks ≡ and_then (all_entered T e ks) (λ d. Some (over d c))
  unfolding all_entered
  all_over [] e c = refl
  all_over (k ∷ ks) e c = go (ltb k (node_count T)) (λ d. all_over ks d c)
    where
      Later : Type 0
      Later = (d : Evaluation) → all_entered T (over d c) ks ≡ and_then (all_entered T d ks) (λ d. Some (over d c))

      then' : (o : Option Evaluation) → Later → and_then (and_then o (λ d. Some (over d c))) (λ d. all_entered T d ks) ≡ and_then (and_then o (λ d. all_entered T d ks)) (λ d. Some (over d c))
      then' None ih = refl
      then' (Some d) ih = ih d

      go : (b : Bool) → Later → and_then (cond b (entered T k (over e c)) None) (λ d. all_entered T d ks) ≡ and_then (and_then (cond b (entered T k e) None) (λ d. all_entered T d ks)) (λ d. Some (over d c))
      go true ih = ap (λ o. and_then o (λ d. all_entered T d ks)) (entered_over k e c) ∙ then' (entered T k e) ih
      go false ih = refl

  -- ---- atoms turned

  module _ (J : Interpretation) where
    atom_over : (a : ℕ) (e : Evaluation) (c : List ℕ) → atom_moved T J a (over e c) ≡ and_then (atom_turned T J a e) (λ d. Some (over d c))
    unfolding atom_moved atom_turned presence_turned missing_turned
    atom_over a e c = go (with_member (atom_count T) e.missing a (J a && eqb (get_or e.support a 0) 0)) (atom_nodes_at T a)
      where
        put : CountedSet → Evaluation
        put m = with_candidate e (with_bit e.candidate a (J a)) m

        go : (o : Option CountedSet) (l : Option (List ℕ))
            → and_then (and_then o (λ m. Some (with_support (over e c) e.support m))) (λ d. and_then l (all_entered T d))
            ≡ and_then (and_then o (λ m. and_then l (all_entered T (put m)))) (λ d. Some (over d c))
        go None l = refl
        go (Some m) None = refl
        go (Some m) (Some ks) = all_over ks (put m) c

    pub all_moved_lem : (more : List ℕ) (e : Evaluation) → all_moved T J more (over e (bits_laid J more e.candidate)) ≡ all_turned T J more e
    unfolding all_moved all_turned bits_laid
    all_moved_lem [] e = refl
    all_moved_lem (a ∷ more) e = ap (λ o. and_then o (all_moved T J more)) (atom_over a e last) ∙ go (atom_turned T J a e) refl (all_moved_lem more)
      where
        last : List ℕ
        last = bits_laid J more (with_bit e.candidate a (J a))

        go : (o : Option Evaluation) → atom_turned T J a e ≡ o → ((d : Evaluation) → all_moved T J more (over d (bits_laid J more d.candidate)) ≡ all_turned T J more d)
            → and_then (and_then o (λ d. Some (over d last))) (all_moved T J more) ≡ and_then o (all_turned T J more)
        go None h ih = refl
        go (Some d) h ih = ap (λ c. all_moved T J more (over d (bits_laid J more c))) (sym (turned_candidate T J a e d h)) ∙ ih d

    pub moved_fits : (a : ℕ) (e d : Evaluation) → atom_moved T J a e ≡ Some d → Fits T e → Fits T d
    unfolding atom_moved presence_turned
    moved_fits a e d h f =
        let p = then_some (presence_turned T a (J a) e) (λ b. and_then (atom_nodes_at T a) (all_entered T b)) d h in
        let q = then_some (atom_nodes_at T a) (all_entered T p.0) d p.2 in
        let m = missing_turned_lem T e p.0 a (J a && eqb (get_or e.support a 0) 0) p.1 in
        entered_all_fits T p.0 d q.0 q.2 (rw m.2 (missing_fits T e a (J a && eqb (get_or e.support a 0) 0) m.0 m.1 f))
