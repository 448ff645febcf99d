-- The answer of every check fits its word, on any tables and any words lent.
-- Assumes nothing.
use Rattle.std.specs.Prelude.{Ok, Err, Option, Some, None}
use Prim.Native.Nat.{ℕ, zero, suc, ◌+◌, ◌*◌, ◌<◌, ◌≤◌}
use native.Mathlib.Omega.{arith}
use native.Mathlib.Nat.{min-le_left}
use mathlib.Core.Path.{◌≡◌, refl, ap, ◌∙◌, subst}
use mathlib.Core.Logic.{◌⊎◌, inl, inr, ⊎_elim}
use mathlib.Core.Bool.{Bool, true, false, cond, ◌&&◌}
use mathlib.Core.List.{List, [], ◌∷◌}
use lib.Dec.{eqb, ltb, leb}
use lib.ListN.{length, set, length-take}
use borrow.Author.Tests.{ltb-true}
use Rattle.base.specs.Each.{Each}
use Rattle.formula.specs.Satisfaction.{Interpretation}
use Rattle.words.specs.Next.{next}
use Rattle.words.specs.Changed.{unlike}
use Rattle.theory.specs.Limits.{Limited}
use Rattle.theory.specs.LimitsLaws.{within_limits}
use Rattle.theory.specs.Refusal.{told}
use Rattle.theory.specs.Refusals.{or_else_left}
use Rattle.theory.specs.declared.Refusal.TheVariants.{ShortBuffer, ForeignStamp, StrayBit, BadEntry}
use Rattle.kept.specs.CountedSet.{Lookup, empty, astray, at, lookup, and_then}
use Rattle.kept.specs.Worklist.{Worklist, without_first}
use Rattle.kept.specs.SetOf.{words64}
use Rattle.kept.specs.Tables.{Tables, atom_count, node_count, root_count, root_at, head_at, body_at, readers_at}
use Rattle.kept.specs.Seen.{seen_by}
use Rattle.kept.specs.Evaluation.{Evaluation, truth, truth_at, truth_word, fresh}
use Rattle.kept.specs.Verdict.{Verdict, not_model, residual, stable, verdict, judged, verdict_of}
use Rattle.kept.proofs.VerdictLaws.{verdict-fresh}
use Rattle.kept.specs.Parts.{with_truths, with_worklist}
use Rattle.kept.specs.Step.{Stepped, idle, took, fault, took_at, settled, settled_from, seen, step_at, step, readers_updated}
use Rattle.kept.specs.Start.{walk_start}
use Rattle.kept.specs.Walk.{Walked, ended, broken, after, onward, walk, walk_from, kept_walk}
use Rattle.kept.specs.Check as check
use Rattle.kept.specs.Check.{entry, seen_entry, node_entry, producer_entry, root_entry, tables_admission, fresh_result, kept_result, is_kept, result}
use Rattle.kept.specs.EntryLaws.{root_within}
use Rattle.kept.specs.Candidate.{Candidate, atoms_of, listed_words}
use Rattle.kept.specs.Layout.{of_words}
use Rattle.kept.specs.LayoutLaws.{Fits, room, fits_of}
use Rattle.kept.specs.Tests.{Buffer, buffers, first_short, stamps, stray_bit, tests}
use Rattle.kept.specs.TestLaws.{lent_long}
use Rattle.kept.specs.Outcome.{accepted, concluded, outcome_at, outcome}
use Rattle.kept_laws.specs.WalkEnds.{Rises}
use Rattle.kept_laws.proofs.AnyWords.{kept_ends}
use Rattle.verdict.specs.ToldLaws.{lookup_below}
use Rattle.answers.specs.Word.{named}
use Rattle.answers.specs.Fits.{RefusalFits, AnswerFits}
use Rattle.answers.proofs.Bounded.{Fitting, fitting_admitted, fitting_refused, fitting_then, fitting_test, fitting_passed, fitting_first, fitting_limits}
use Rattle.theory.specs.Admission.{Admission, admitted}

-- ---- the tests before 17

short_fits : (bs : List Buffer) → Each (λ b. b.number < 4294967296) bs → Fitting (first_short bs)
unfolding first_short told
short_fits [] h = fitting_admitted
short_fits (b ∷ bs) h = fitting_test (ltb b.lent b.least) (ShortBuffer b.number) (first_short bs) (record { place = h.0; body = omega arith }) (short_fits bs h.1)

module _ (T : Tables) (c : Candidate) where
  stamps_fit : Fitting (stamps T c)
  unfolding stamps told
  stamps_fit = fitting_passed (eqb c.stamp T.counts.stamp && eqb T.plan T.counts.stamp) ForeignStamp (record { place = omega arith; body = omega arith })

  stray_fits : Limited T.counts → Fitting (stray_bit T c)
  unfolding stray_bit told
  stray_fits l = go (ltb (next 64 (listed_words T c) (atom_count T)) (64 * length (listed_words T c))) refl
    where
      most : length (listed_words T c) ≤ words64 (atom_count T)
      most = rw (length-take (words64 (atom_count T)) c.words) (min-le_left (words64 (atom_count T)) (length c.words))

      words : words64 (atom_count T) * 64 ≤ 65536 + 63
      words = omega (arith, l.atoms)

      go : (b : Bool) → ltb (next 64 (listed_words T c) (atom_count T)) (64 * length (listed_words T c)) ≡ b
          → Fitting (cond b (Err (StrayBit (next 64 (listed_words T c) (atom_count T)))) admitted)
      go true e =
          let low = ltb-true (next 64 (listed_words T c) (atom_count T)) (64 * length (listed_words T c)) e in
          fitting_refused (StrayBit (next 64 (listed_words T c) (atom_count T))) (record { place = omega (arith, low, most, words); body = omega arith })
      go false e = fitting_admitted

  tests_fit : (size : ℕ) → Fitting (tests T c size)
  unfolding tests
  tests_fit size =
      fitting_then _ _ (fitting_limits T.counts)
      (λ e. fitting_then _ _ (short_fits (buffers T c size) (omega arith, (omega arith, (omega arith, (omega arith, (omega arith, (omega arith, (omega arith, tt))))))))
      (λ f. fitting_then _ _ stamps_fit (λ g. stray_fits (within_limits T.counts e))))

  tests_limited : (size : ℕ) → tests T c size ≡ admitted → Limited T.counts
  unfolding tests
  tests_limited size e = within_limits T.counts (or_else_left _ _ e)

-- ---- 17 names a node, or 0

module _ (T : Tables) where
  entry_fits : (place : ℕ) → place ≤ node_count T → Limited T.counts → RefusalFits (BadEntry place)
  unfolding told
  entry_fits place p l = record { place = omega (arith, p, l.nodes); body = omega arith }

  -- ---- the step and the walk

  took_place : (k m : ℕ) (o : Option Evaluation) → took_at k o ≡ fault m → k ≡ m
  took_place k m None h = cc
  took_place k m (Some e) h = let z : ◌≡◌ {A = ℕ} 0 1 = cc in absurd (omega arith)

  settled_place : (k m : ℕ) (t : Bool) (e : Evaluation) → settled T k t e ≡ fault m → k ≡ m
  unfolding settled
  settled_place k m t e h =
      go (unlike (truth_at e k) t) (and_then (readers_at T k) (readers_updated T k t (with_truths e (set e.truths k (truth_word t))))) h
    where
      go : (b : Bool) (o : Option Evaluation) → cond b (took_at k o) (took k e) ≡ fault m → k ≡ m
      go true o h = took_place k m o h
      go false o h = let z : ◌≡◌ {A = ℕ} 0 1 = cc in absurd (omega arith)

  step_place : (m : ℕ) (e : Evaluation) → step T e ≡ fault m → m ≤ node_count T
  unfolding step step_at
  step_place m e h = go (ltb k n) (eqb k n) refl h
    where
      k : ℕ
      k = e.worklist.first

      n : ℕ
      n = node_count T

      from : (t : Option Bool) (w : Option Worklist) → settled_from T k e t w ≡ fault m → (k ≡ m) ⊎ (0 ≡ m)
      from None w h = inl cc
      from (Some t) None h = inr cc
      from (Some t) (Some w) h = inl (settled_place k m t (with_worklist e w) h)

      go : (a b : Bool) → ltb k n ≡ a
          → cond a (settled_from T k e (seen T e k) (without_first n e.worklist)) (cond b idle (fault 0)) ≡ fault m → m ≤ n
      go true b q h = ⊎_elim (λ p. omega (arith, ltb-true k n q, p)) (λ p. omega (arith, p)) (from (seen T e k) (without_first n e.worklist) h)
      go false true q h = let z : ◌≡◌ {A = ℕ} 0 1 = cc in absurd (omega arith)
      go false false q h = let z : 0 ≡ m = cc in omega (arith, z)

  walk_place : (fuel m : ℕ) (e : Evaluation) → walk T fuel e ≡ broken m → m ≤ node_count T
  unfolding walk
  walk_place zero m e h = let z : ◌≡◌ {A = ℕ} 0 1 = cc in absurd (omega arith)
  walk_place (suc fuel) m e h = go (step T e) refl h (walk_place fuel m)
    where
      later : (k : ℕ) (w : Walked) → after k w ≡ broken m → w ≡ broken m
      later k (ended ks d) h = let z : ◌≡◌ {A = ℕ} 0 1 = cc in absurd (omega arith)
      later k (broken j) h = h

      go : (s : Stepped) → step T e ≡ s → onward e (walk T fuel) s ≡ broken m → ((d : Evaluation) → walk T fuel d ≡ broken m → m ≤ node_count T) → m ≤ node_count T
      go idle p h ih = let z : ◌≡◌ {A = ℕ} 0 1 = cc in absurd (omega arith)
      go (took k d) p h ih = ih d (later k (walk T fuel d) h)
      go (fault k) p h ih = let z : k ≡ m = cc in step_place m e (p ∙ ap fault z)

  kept_place : (m : ℕ) (J : Interpretation) (e : Evaluation) → kept_walk T J e ≡ broken m → m ≤ node_count T
  unfolding kept_walk
  kept_place m J e h = go (ltb (next 32 e.candidate (atom_count T)) (32 * length e.candidate)) (walk_start T J (atom_count T) e) h
    where
      go : (b : Bool) (o : Option Evaluation) → cond b (broken 0) (walk_from T o) ≡ broken m → m ≤ node_count T
      go true o h = let z : 0 ≡ m = cc in omega (arith, z)
      go false None h = let z : 0 ≡ m = cc in omega (arith, z)
      go false (Some d) h = walk_place (suc (node_count T)) m d h

  -- ---- the verdict names a node or an atom

  -- at most so great
  abbrev Names : Verdict → Type 0
  Names v = named v ≤ node_count T + atom_count T

  told_names : (e : Evaluation) (v : Verdict) → verdict_of T e ≡ Some v → Names v
  unfolding verdict_of judged
  told_names e v h = go (lookup (root_count T) 0 e.false_roots) (lookup (atom_count T) 0 e.missing) refl h
    where
      root : (r : ℕ) (b : Bool) → ltb r (node_count T) ≡ b → cond b (Some (not_model r)) None ≡ Some v → Names v
      root r true q h = let z : not_model r ≡ v = cc in subst Names z (omega (arith, ltb-true r (node_count T) q))
      root r false q h = let z : ◌≡◌ {A = ℕ} 0 1 = cc in absurd (omega arith)

      go : (f m : Lookup) → lookup (atom_count T) 0 e.missing ≡ m → judged T f m ≡ Some v → Names v
      go (at r) m q h = root (root_at T r) (ltb (root_at T r) (node_count T)) refl h
      go astray m q h = let z : ◌≡◌ {A = ℕ} 0 1 = cc in absurd (omega arith)
      go empty (at a) q h = let z : residual a ≡ v = cc in subst Names z (omega (arith, lookup_below (atom_count T) 0 a e.missing q))
      go empty astray q h = let z : ◌≡◌ {A = ℕ} 0 1 = cc in absurd (omega arith)
      go empty empty q h = let z : stable ≡ v = cc in subst Names z (omega arith)

  fresh_names : (J : Interpretation) → tables_admission T J ≡ admitted → Names (verdict T J)
  fresh_names J ok = told_names (fresh T J) (verdict T J) (verdict-fresh T J (root_within T J ok))

  -- ---- a result

  rises_few : (k n : ℕ) (ks : List ℕ) → Rises T k n ks → length ks + k ≤ n ⊎ (length ks ≡ 0)
  rises_few k n [] r = inr refl
  rises_few k n (x ∷ xs) r = ⊎_elim (λ l. inl (omega (arith, l, r.0))) (λ e. inl (omega (arith, e, r.0, r.1))) (rises_few (suc x) n xs r.2)

  abbrev ResultFits : check.Result → Type 0
  ResultFits (check.accepted v n e) = AnswerFits (accepted v n)
  ResultFits (check.refused r) = RefusalFits r

  module _ (l : Limited T.counts) where
    answer_fits : (v : Verdict) (n : ℕ) → Names v → n ≤ node_count T → AnswerFits (accepted v n)
    answer_fits v n p q = (omega (arith, p, l.nodes, l.atoms), omega (arith, q, l.nodes))

    kept_fits : (J : Interpretation) (e : Evaluation) → Fits T e → (w : Walked) → kept_walk T J e ≡ w → ResultFits (kept_result T w)
    unfolding kept_result
    kept_fits J e f (ended ks d) h = go (verdict_of T d) refl
      where
        few : length ks ≤ node_count T
        few = ⊎_elim (λ q. omega (arith, q)) (λ q. omega (arith, q)) (rises_few 0 (node_count T) ks (kept_ends T J e f ks d h).rises)

        go : (o : Option Verdict) → verdict_of T d ≡ o → ResultFits (check.concluded o (length ks) d)
        go None q = entry_fits 0 (omega arith) l
        go (Some v) q = answer_fits v (length ks) (told_names d v q) few
    kept_fits J e f (broken place) h = entry_fits place (kept_place place J e h) l

    tables_fit : (J : Interpretation) → Fitting (tables_admission T J)
    unfolding tables_admission node_entry producer_entry root_entry
    tables_fit J =
        fitting_then _ _ (fitting_first (node_entry T J) 0 (node_count T) (λ k m. node_fits k (omega arith) (seen_by T J (truth T J) k)))
        (λ e. fitting_then _ _ (fitting_first (producer_entry T) 0 T.made (λ p m. fitting_passed (ltb (head_at T p) (atom_count T) && leb (body_at T p) (node_count T)) (BadEntry 0) (entry_fits 0 (omega arith) l)))
        (λ f. fitting_first (root_entry T) 0 (root_count T) (λ r m. fitting_passed (ltb (root_at T r) (node_count T)) (BadEntry 0) (entry_fits 0 (omega arith) l))))
      where
        node_fits : (k : ℕ) → k ≤ node_count T → (o : Option Bool) → Fitting (seen_entry k o)
        node_fits k m None = fitting_refused (BadEntry k) (entry_fits k m l)
        node_fits k m (Some t) = fitting_admitted

    fresh_fits : (J : Interpretation) (a : Admission) → tables_admission T J ≡ a → ResultFits (fresh_result T J a)
    unfolding fresh_result
    fresh_fits J (Ok u) h = answer_fits (verdict T J) (node_count T) (fresh_names J h) (omega arith)
    fresh_fits J (Err r) h = tables_fit J r h

    result_fits : (floor divisor : ℕ) (J : Interpretation) (e : Evaluation) → Fits T e → ResultFits (result floor divisor T J e)
    unfolding result
    result_fits floor divisor J e f = go (ltb (root_count T) T.made) (is_kept floor divisor T J e)
      where
        go : (a b : Bool) → ResultFits (cond a (check.refused (BadEntry 0)) (cond b (kept_result T (kept_walk T J e)) (fresh_result T J (tables_admission T J))))
        go true b = entry_fits 0 (omega arith) l
        go false true = kept_fits J e f (kept_walk T J e) refl
        go false false = fresh_fits J (tables_admission T J) refl

  concluded_fits : (ws : List ℕ) (x : check.Result) → ResultFits x → AnswerFits (concluded T ws x).answer
  concluded_fits ws (check.accepted v n e) f = f
  concluded_fits ws (check.refused r) f = f

-- whatever is lent, each number of a check's answer fits its field
pub outcome_fits : (floor divisor : ℕ) (T : Tables) (c : Candidate) (ws : List ℕ) → AnswerFits (outcome floor divisor T c ws).answer
unfolding outcome outcome_at
outcome_fits floor divisor T c ws = go (tests T c (length ws)) refl
  where
    go : (a : Admission) → tests T c (length ws) ≡ a → AnswerFits (outcome_at floor divisor T c ws a).answer
    go (Err r) e = tests_fit T c (length ws) r e
    go (Ok u) e =
        let lent = lent_long T c (length ws) e in
        concluded_fits T ws (result floor divisor T (atoms_of T c) (of_words T ws))
        (result_fits T (tests_limited T c (length ws) e) floor divisor (atoms_of T c) (of_words T ws) (fits_of T ws (omega (arith, room T, lent.1.1.1.1.1.1.0))))
