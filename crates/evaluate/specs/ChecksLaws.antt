-- A check from the parts that calls answer and leave.
-- Assumes nothing.
use Rattle.std.specs.Prelude.{ℕ, suc, ◌<◌, ◌≤◌, ◌+◌, ◌-◌, ◌*◌, ◌/◌, max, true, false, List, ◌++◌, leb, length, get_or, Option, Some, None, Ok, Err}
use Rattle.std.proofs.Common.{arith, ◌∙◌}
use Rattle.std.proofs.Math.Path.{◌≡◌, ap, ap₂, sym}
use Rattle.std.proofs.Math.ListN.{drop, replicate}
use Rattle.std.proofs.Math.Seq.{drop-drop}
use borrow.Author.Tests.{eq-eqb, ne_eqb, lt-ltb, le-ltb, lt-leb, le-leb}
use Rattle.formula.specs.Satisfaction.{Interpretation}
use Rattle.formula.specs.Passes.{Within}
use Rattle.readers.specs.ReaderTable.{reader_words}
use Rattle.theory.specs.Admission.{or_else, Admission, admitted}
use Rattle.theory.specs.Limits.{limits_of, Limited}
use Rattle.theory.specs.LimitsLaws.{within_limits}
use Rattle.theory.specs.Refusals.{or_else_left}
use Rattle.theory.specs.declared.Counts.{Counts}
use Rattle.theory.specs.declared.Refusal.{Refusal}
use Rattle.theory.specs.declared.Refusal.TheVariants.{BadEntry}
use Rattle.words.specs.Sets.{member}
use Rattle.kept.specs.SetOf.{words64}
use Rattle.kept.specs.Tables.{Tables, atom_count, node_count, root_count}
use Rattle.kept.specs.Evaluation as evaluation
use Rattle.kept.specs.Evaluation.{Evaluation}
use Rattle.kept.specs.EntryLaws.{root_within}
use Rattle.kept.proofs.VerdictLaws.{verdict-fresh}
use Rattle.kept.specs.Walk.{walk, kept_walk}
use Rattle.kept.proofs.WalkLaws.{fresh_idle}
use Rattle.kept.specs.Check as check
use Rattle.kept.specs.Check.{Result, tables_admission, fresh_result, kept_result, changes, is_kept, result}
use Rattle.kept.specs.Layout.{of_words, written, used, listed}
use Rattle.kept.specs.LayoutLaws.{room, fits_fresh}
use Rattle.kept.specs.Candidate.{Candidate, listed_words, atoms_of}
use Rattle.kept.specs.Tests.{buffers, first_short, stamps, stray_bit, tests}
use Rattle.kept.specs.TestLaws.{atoms_within, lent_long}
use Rattle.kept.specs.Outcome as outcomes
use Rattle.kept.specs.Outcome.{cleared, outcome_at, outcome}
use Rattle.kept_laws.specs.Turns.{resumed, walk_done}
use Rattle.kept_laws.specs.Written.{of_written}
use Rattle.kept_laws.specs.Wrote.{Beside, beside_same}
use Rattle.complete.specs.Laid.{Laid}
use Rattle.difference.specs.Marks.{Marked, Between}
use Rattle.update.specs.declared.Accepted.{Accepted}
use Rattle.update.specs.Results.{Checked, Results}
use Rattle.update.specs.ResultsLaws.{refused_results, results_by, results_then}
use Rattle.difference.specs.declared.Differing.{Differing}
use Rattle.evaluate.specs.Checks.{keeps_by, Spans, outcome_of, settled}

-- ---- what the tests give

pub record Passed (T : Tables) (c : Candidate) (size : ℕ) : Type 0 where
  pub limited : Limited T.counts
  pub candidate_long : words64 (atom_count T) ≤ length c.words
  pub nodes_long : 3 * node_count T ≤ length T.nodes
  pub operands_long : T.counts.operands ≤ length T.operands
  pub roots_long : root_count T ≤ length T.roots
  pub producers_long : 4 * root_count T ≤ length T.producers
  pub readers_long : reader_words T.counts ≤ length T.readers
  pub kept_long : listed T ≤ size
  pub within : Within (atom_count T) (member 64 (listed_words T c))

pub passed : (T : Tables) (c : Candidate) (size : ℕ) → admitted ≡ tests T c size → Passed T c size
unfolding tests atoms_of
passed T c size e =
    let h = lent_long T c size (sym e) in
    record {
      limited = within_limits T.counts (or_else_left (limits_of T.counts) (or_else (first_short (buffers T c size)) (or_else (stamps T c) (stray_bit T c))) (sym e));
      candidate_long = h.0;
      nodes_long = h.1.0;
      operands_long = h.1.1.0;
      roots_long = h.1.1.1.0;
      producers_long = h.1.1.1.1.0;
      readers_long = h.1.1.1.1.1.0;
      kept_long = h.1.1.1.1.1.1.0;
      within = atoms_within T c size (sym e);
    }

-- ---- whether it is kept

pub spans_few : (t : Counts) (kept new marks : List ℕ) (r : Option Differing) (d : Differing) → Spans t kept new marks r → r ≡ Some d → Marked t kept new marks × Between t kept new d.first d.end
spans_few t kept new marks r d s p = rw p at s

module _ (T : Tables) (J : Interpretation) (ws : List ℕ) where
  abbrev e : Evaluation
  e = of_words T ws

  pub not-held : (get_or ws 0 0 ≡ 1 → ⊥) → false ≡ is_kept 64 8 T J e
  unfolding is_kept of_words
  not-held h = sym (rw (ne_eqb (get_or ws 0 0) 1 h))

  pub not_mine : get_or ws 0 0 ≡ 1 → (get_or ws 1 0 ≡ T.counts.stamp → ⊥) → false ≡ is_kept 64 8 T J e
  unfolding is_kept of_words
  not_mine p h = sym (rw (eq-eqb (get_or ws 0 0) 1 p, ne_eqb (get_or ws 1 0) T.counts.stamp h))

  module _ (n m : ℕ) (p : get_or ws 0 0 ≡ 1) (s : get_or ws 1 0 ≡ T.counts.stamp) (q : n ≡ changes J e) (r : m ≡ max 64 (atom_count T / 8)) where
    counted : is_kept 64 8 T J e ≡ leb n m
    unfolding is_kept of_words
    counted = rw (eq-eqb (get_or ws 0 0) 1 p, eq-eqb (get_or ws 1 0) T.counts.stamp s, q, r)

    pub many_changed : m < n → false ≡ is_kept 64 8 T J e
    many_changed l = sym (counted ∙ lt-leb n m l)

    pub few_changed : n ≤ m → true ≡ is_kept 64 8 T J e
    few_changed l = sym (counted ∙ le-leb n m l)

  -- by the case that the comparison answers
  module _ (r : Option Differing) (k : keeps_by r ≡ is_kept 64 8 T J e) where
    pub kept_few : (d : Differing) → r ≡ Some d → is_kept 64 8 T J e ≡ true
    kept_few d p = sym k ∙ ap keeps_by p

    pub kept_fresh : r ≡ None → is_kept 64 8 T J e ≡ false
    kept_fresh p = sym k ∙ ap keeps_by p

  -- ---- fresh

  module _ (long : used T ≤ length ws) (r : Admission) (mid : List ℕ) (laid : Laid T ws (tables_admission T J) (evaluation.fresh T J) r mid) where
    pub fresh_refused : (x : Refusal) → r ≡ Err x → Results T ws (fresh_result T J (tables_admission T J)) (Err x) mid
    unfolding fresh_result
    fresh_refused x p = refused_results T ws (fresh_result T J (tables_admission T J)) x mid (rw (sym laid.0 ∙ p)) laid.2

    -- and the walk goes on from it, with nothing left
    pub fresh_done : r ≡ admitted → (c : Checked) (after : List ℕ) → Results T mid (resumed T (node_count T) (walk T (suc (node_count T)) (of_words T mid))) c after
        → Results T ws (fresh_result T J (tables_admission T J)) c after
    unfolding fresh_result
    fresh_done p c after h =
        let put : mid ≡ written T ws (evaluation.fresh T J) = laid.1 (sym laid.0 ∙ p) in
        let holds : of_words T mid ≡ evaluation.fresh T J = ap (of_words T) put ∙ of_written T ws long (evaluation.fresh T J) (fits_fresh T J) in
        results_by T ws (fresh_result T J (tables_admission T J)) (resumed T (node_count T) (walk T (suc (node_count T)) (of_words T mid))) c after
        (ap (fresh_result T J) (sym laid.0 ∙ p)
        ∙ ap (λ o. check.concluded o (node_count T) (evaluation.fresh T J)) (sym (verdict-fresh T J (root_within T J (sym laid.0 ∙ p))))
        ∙ sym (walk_done T (node_count T) (evaluation.fresh T J) (fresh_idle T J))
        ∙ ap (λ y. resumed T (node_count T) (walk T (suc (node_count T)) y)) (sym holds))
        (results_then T ws mid (evaluation.fresh T J) long (fits_fresh T J) put (resumed T (node_count T) (walk T (suc (node_count T)) (of_words T mid))) c after h)

  -- ---- one of the two

  pub result_many : root_count T < T.made → Results T ws (result 64 8 T J e) (Err (BadEntry 0)) ws
  unfolding result
  result_many l = refused_results T ws (result 64 8 T J e) (BadEntry 0) ws (rw (lt-ltb (root_count T) T.made l)) (beside_same T ws)

  module _ (few : T.made ≤ root_count T) (c : Checked) (after : List ℕ) where
    pub result_kept : is_kept 64 8 T J e ≡ true → Results T ws (kept_result T (kept_walk T J e)) c after → Results T ws (result 64 8 T J e) c after
    unfolding result
    result_kept k h = results_by T ws (result 64 8 T J e) (kept_result T (kept_walk T J e)) c after (rw (le-ltb (root_count T) T.made few, k)) h

    pub result_fresh : is_kept 64 8 T J e ≡ false → Results T ws (fresh_result T J (tables_admission T J)) c after → Results T ws (result 64 8 T J e) c after
    unfolding result
    result_fresh k h = results_by T ws (result 64 8 T J e) (fresh_result T J (tables_admission T J)) c after (rw (le-ltb (root_count T) T.made few, k)) h

-- ---- the outcome

module _ (T : Tables) (c : Candidate) (ws : List ℕ) where
  pub outcome_refused : (r : Refusal) → Err r ≡ tests T c (length ws) → outcome_of (Err r) ws ≡ outcome 64 8 T c ws
  unfolding outcome outcome_at
  outcome_refused r e = rw (sym e)

  same_past : (mid : List ℕ) → Beside T ws mid → replicate (listed T) 0 ++ drop (listed T) mid ≡ cleared T ws
  unfolding cleared
  same_past mid b =
      let split : listed T ≡ used T + (listed T - used T) = omega (arith, room T) in
      ap (λ l. replicate (listed T) 0 ++ l)
      (ap (λ n. drop n mid) split ∙ sym (drop-drop (listed T - used T) (used T) mid) ∙ ap (drop (listed T - used T)) b.behind
      ∙ drop-drop (listed T - used T) (used T) ws ∙ ap (λ n. drop n ws) (sym split))

  pub outcome_checked : admitted ≡ tests T c (length ws) → (r : Checked) (mid : List ℕ) → Results T ws (result 64 8 T (member 64 (listed_words T c)) (of_words T ws)) r mid
      → outcome_of r (settled (listed T) r mid) ≡ outcome 64 8 T c ws
  unfolding outcome outcome_at settled atoms_of
  outcome_checked e r mid h = rw (sym e) (go r (result 64 8 T (member 64 (listed_words T c)) (of_words T ws)) h)
    where
      go : (r : Checked) (x : Result) → Results T ws x r mid → outcome_of r (settled (listed T) r mid) ≡ outcomes.concluded T ws x
      go (Ok a) (check.accepted w m d) h = ap₂ (λ a l. record { answer = a; words = l }) h.0 h.1
      go (Ok a) (check.refused s) h = let p = h.0 in let z : ◌≡◌ {A = ℕ} 0 1 = cc in absurd (omega arith)
      go (Err s) (check.accepted w m d) h = let p = h.0 in let z : ◌≡◌ {A = ℕ} 0 1 = cc in absurd (omega arith)
      go (Err s) (check.refused t) h = ap₂ (λ a l. record { answer = a; words = l }) h.0 (same_past mid h.1)

-- ---- the words after it

module _ (n : ℕ) (x : Checked) (ws : List ℕ) where
  pub settled_accepted : (a : Accepted) → x ≡ Ok a → ws ≡ settled n x ws
  unfolding settled
  settled_accepted a e = rw e

  pub settled_refused : (r : Refusal) → x ≡ Err r → replicate n 0 ++ drop n ws ≡ settled n x ws
  unfolding settled
  settled_refused r e = rw e
