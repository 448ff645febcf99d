-- Demand 3, whole: every series of checks by one plan, from zeroed words.
-- Assumes nothing.
use Rattle.std.specs.Prelude.{Ok, Err, Option, Some, None}
use Prim.Native.Nat.{ℕ, ◌+◌}
use native.Mathlib.Omega.{arith}
use mathlib.Core.Path.{◌≡◌, refl, ap, ap₂, sym, ◌∙◌}
use mathlib.Core.Bool.{cond}
use mathlib.Core.List.{List, [], ◌∷◌}
use lib.ListN.{length}
use borrow.Author.Tests.{le-leb, lt-leb}
use Rattle.formula.specs.Passes.{Within}
use Rattle.theory.specs.declared.Refusal.{Refusal}
use Rattle.theory.specs.declared.Refusal.TheVariants.{BadEntry}
use Rattle.kept.specs.Tables.{Tables, atom_count, node_count}
use Rattle.kept.specs.Evaluation.{Evaluation, zeroed, fresh}
use Rattle.kept.specs.Verdict.{Verdict, residual, verdict}
use Rattle.kept.specs.Walk.{kept_walk}
use Rattle.kept.specs.Changed.{changed_atoms}
use Rattle.kept.specs.Check as check
use Rattle.kept.specs.Check.{most, is_kept, result}
use Rattle.kept.proofs.CheckLaws.{gone_over, not-kept, is_kept_lem, result_zeroed, result_fresh}
use Rattle.kept.specs.Consistent.{Consistent}
use Rattle.kept.specs.Layout.{image, of_words, used}
use Rattle.kept.specs.LayoutLaws.{Fits, fits_fresh, fits_zeroed, of_image, written-image, length-image, behind, zero-image}
use Rattle.kept.specs.Candidate.{Candidate, atoms_of}
use Rattle.kept.specs.Tests.{tests}
use Rattle.kept.specs.Outcome.{accepted, refused, Outcome, concluded, outcome_at, outcome}
use Rattle.kept.specs.TestLaws.{tests-not_17, atoms_within}
use Rattle.kept.specs.Planned.{PlannedTables}
use Rattle.kept.specs.PlannedLaws.{consistent}
use Rattle.kept.specs.Series.{is_accepted, zeroed_words, answer_to, series_words, last_accepted, anew, GoneOver, SeriesCheck, Demand3}
use Rattle.kept.proofs.Walk.{walk}
use Rattle.kept.proofs.Decides.{decided}
use Rattle.kept.proofs.Removable.{residual_removable}
use Rattle.theory.specs.Admission.{Admission, admitted}

module _ (T : Tables) (plan : PlannedTables T) where
  good : Consistent T
  good = consistent T plan

  module _ (floor divisor : ℕ) (past : List ℕ) where
    -- ---- the words of a series: zeroed, or those of the last accepted candidate

    abbrev evaluation_of : Option Candidate → Evaluation
    evaluation_of None = zeroed T
    evaluation_of (Some c) = fresh T (atoms_of T c)

    fits : (o : Option Candidate) → Fits T (evaluation_of o)
    fits None = fits_zeroed T
    fits (Some c) = fits_fresh T (atoms_of T c)

    state : Option Candidate → List ℕ
    state o = image (evaluation_of o) (behind T past)

    -- the words' length, always the same
    size : ℕ
    size = used T + length (behind T past)

    length_state : (o : Option Candidate) → length (state o) ≡ size
    unfolding state size
    length_state o = length-image T (evaluation_of o) (fits o) (behind T past)

    zero_state : zeroed_words T past ≡ state None
    unfolding state
    zero_state = sym (zero-image T past)

    abbrev Passes : Candidate → Type 0
    Passes c = tests T c size ≡ admitted

    abbrev Passed : Option Candidate → Type 0
    Passed None = Unit {0}
    Passed (Some c) = Passes c

    -- ---- one check

    gone : Option Candidate → Candidate → ℕ
    gone None c = node_count T
    gone (Some d) c = gone_over T good floor divisor (atoms_of T d) (atoms_of T c)

    result_state : (o : Option Candidate) (c : Candidate) → Within (atom_count T) (atoms_of T c)
        → result floor divisor T (atoms_of T c) (evaluation_of o) ≡ check.accepted (verdict T (atoms_of T c)) (gone o c) (fresh T (atoms_of T c))
    unfolding gone
    result_state None c w = result_zeroed T good floor divisor (atoms_of T c)
    result_state (Some d) c w = result_fresh T good floor divisor (atoms_of T d) (atoms_of T c) w

    outcome-passed : (o : Option Candidate) (c : Candidate) → Passes c
        → outcome floor divisor T c (state o) ≡ record { answer = accepted (verdict T (atoms_of T c)) (gone o c); words = state (Some c) }
    unfolding outcome outcome_at state
    outcome-passed o c e =
        ap (λ n. outcome_at floor divisor T c (state o) (tests T c n)) (length_state o)
        ∙ ap (outcome_at floor divisor T c (state o)) e
        ∙ ap (λ d. concluded T (state o) (result floor divisor T (atoms_of T c) d)) (of_image T (evaluation_of o) (fits o) (behind T past))
        ∙ ap (concluded T (state o)) (result_state o c (atoms_within T c size e))
        ∙ ap (λ ws. record { answer = accepted (verdict T (atoms_of T c)) (gone o c); words = ws }) (written-image T (evaluation_of o) (fits o) (behind T past) (fresh T (atoms_of T c)))

    outcome_refused : (o : Option Candidate) (c : Candidate) (r : Refusal) → tests T c size ≡ Err r
        → outcome floor divisor T c (state o) ≡ record { answer = refused r; words = state o }
    unfolding outcome outcome_at
    outcome_refused o c r e =
        ap (λ n. outcome_at floor divisor T c (state o) (tests T c n)) (length_state o) ∙ ap (outcome_at floor divisor T c (state o)) e

    walk_state : (d c : Candidate) → kept_walk T (atoms_of T c) (of_words T (state (Some d))) ≡ kept_walk T (atoms_of T c) (fresh T (atoms_of T d))
    unfolding state
    walk_state d c = ap (kept_walk T (atoms_of T c)) (of_image T (evaluation_of (Some d)) (fits (Some d)) (behind T past))

    -- whether the check is a kept one goes by the evaluation that the words hold
    kept_state : (o : Option Candidate) (c : Candidate) → is_kept floor divisor T (atoms_of T c) (of_words T (state o)) ≡ is_kept floor divisor T (atoms_of T c) (evaluation_of o)
    unfolding state
    kept_state o c = ap (is_kept floor divisor T (atoms_of T c)) (of_image T (evaluation_of o) (fits o) (behind T past))

    gone_over_lem : (o : Option Candidate) (c : Candidate) → Within (atom_count T) (atoms_of T c) → GoneOver floor divisor T o (state o) c (gone o c)
    unfolding gone gone_over
    gone_over_lem None c w = (kept_state None c ∙ not-kept T good floor divisor (atoms_of T c), refl)
    gone_over_lem (Some d) c w =
        let changed : ℕ = changed_atoms T (atoms_of T d) (atoms_of T c) in
        let kept = kept_state (Some d) c ∙ is_kept_lem T good floor divisor (atoms_of T d) (atoms_of T c) w in (
          λ h. let few = le-leb changed (most floor divisor T) h in (kept ∙ few, walk_state d c ∙ walk T good (atoms_of T d) (atoms_of T c), rw few),
          λ h. let many = lt-leb changed (most floor divisor T) h in (kept ∙ many, rw many),
        )

    checked : (o : Option Candidate) (c : Candidate) → SeriesCheck floor divisor T (state None) o (state o) c
    unfolding gone
    checked o c = go (tests T c size) refl
      where
        go : (a : Admission) → tests T c size ≡ a → SeriesCheck floor divisor T (state None) o (state o) c
        go (Ok u) e =
            let x = outcome-passed o c e in
            let said : answer_to floor divisor T c (state o) ≡ accepted (verdict T (atoms_of T c)) (gone o c) = ap (λ y. y.answer) x in
            record {
              never_17 = λ k z. let q : ◌≡◌ {A = ℕ} 0 1 = cc in absurd (omega arith);
              let_pass = λ h. rw said;
              unaltered = λ r z. let q : ◌≡◌ {A = ℕ} 0 1 = cc in absurd (omega arith);
              as_fresh = λ v n z.
                  let q : verdict T (atoms_of T c) ≡ v = cc in
                  outcome-passed None c e ∙ ap₂ (λ (y : Verdict) (ws : List ℕ). record { answer = accepted y (node_count T); words = ws }) q (sym (ap (λ y. y.words) x));
              decides = λ v n z. let q : verdict T (atoms_of T c) ≡ v = cc in rw q at (decided T plan (atoms_of T c) (atoms_within T c size e));
              residual_shows = λ a n z.
                  let q : verdict T (atoms_of T c) ≡ residual a = cc in
                  residual_removable T plan (atoms_of T c) a (rw q at (decided T plan (atoms_of T c) (atoms_within T c size e)));
              gone_over_is = λ v n z. let q : gone o c ≡ n = cc in rw q at (gone_over_lem o c (atoms_within T c size e));
            }
        go (Err r) e =
            let x = outcome_refused o c r e in
            let said : answer_to floor divisor T c (state o) ≡ refused r = ap (λ y. y.answer) x in
            let no : (v : Verdict) (n : ℕ) → answer_to floor divisor T c (state o) ≡ accepted v n → ⊥ = λ v n z. let q : ◌≡◌ {A = ℕ} 0 1 = cc in omega arith in
            record {
              never_17 = λ k z. let q : r ≡ BadEntry k = cc in tests-not_17 T c size k (rw q at e);
              let_pass = λ h. let q : tests T c size ≡ admitted = sym (ap (tests T c) (length_state o)) ∙ h in cc;
              unaltered = λ s z. ap (λ y. y.words) x;
              as_fresh = λ v n z. absurd (no v n z);
              decides = λ v n z. absurd (no v n z);
              residual_shows = λ a n z. absurd (no (residual a) n z);
              gone_over_is = λ v n z. absurd (no v n z);
            }

    -- ---- the series

    abbrev Reached : Option Candidate → Option Candidate → List Candidate → Type 0
    Reached o p cs = (series_words floor divisor T (state o) cs ≡ state (last_accepted floor divisor T (state o) p cs)) × Passed (last_accepted floor divisor T (state o) p cs)

    run : (o : Option Candidate) → Passed o → (cs : List Candidate) → Reached o o cs
    unfolding series_words last_accepted
    run o p [] = (refl, p)
    run o p (c ∷ cs) = go (tests T c size) refl (λ o p. run o p cs)
      where
        Goal : Outcome → Type 0
        Goal x =
            (series_words floor divisor T x.words cs ≡ state (last_accepted floor divisor T x.words (cond (is_accepted x.answer) (Some c) o) cs))
            × Passed (last_accepted floor divisor T x.words (cond (is_accepted x.answer) (Some c) o) cs)

        go : (a : Admission) → tests T c size ≡ a → ((o : Option Candidate) → Passed o → Reached o o cs) → Goal (outcome floor divisor T c (state o))
        go (Ok u) e ih = rw (outcome-passed o c e) (ih (Some c) e)
        go (Err r) e ih = rw (outcome_refused o c r e) (ih o p)

    anew_state : (o : Option Candidate) → Passed o → anew floor divisor T (state None) o ≡ state o
    anew_state None p = refl
    anew_state (Some c) p = ap (λ x. x.words) (outcome-passed None c p)

-- DEMAND 3
pub series : (floor divisor : ℕ) (T : Tables) → PlannedTables T → (past : List ℕ) (cs : List Candidate) → Demand3 floor divisor T past cs
series floor divisor T plan past cs =
    record {
      after = rw (zero_state T plan floor divisor past) (r.0 ∙ sym (anew_state T plan floor divisor past (last_accepted floor divisor T (state T plan floor divisor past None) None cs) r.1));
      each = λ before c later e.
          rw (zero_state T plan floor divisor past)
          (rw (run T plan floor divisor past None tt before).0
          (checked T plan floor divisor past (last_accepted floor divisor T (state T plan floor divisor past None) None before) c));
    }
  where
    r : Reached T plan floor divisor past None None cs
    r = run T plan floor divisor past None tt cs
