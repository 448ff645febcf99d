-- On any words: the kept walk takes rising nodes, each once, and leaves an empty worklist; an outcome keeps the words' length and those past the listed ones.
-- Assumes nothing.
use Rattle.std.specs.Prelude.{Ok, Err, Option, Some, None}
use Prim.Native.Nat.{ℕ, zero, suc, ◌≤◌, ◌+◌, ◌-◌, ◌*◌}
use native.Mathlib.Omega.{arith}
use mathlib.Core.Path.{◌≡◌, refl, ap, sym, ◌∙◌}
use mathlib.Core.Logic.{◌⊎◌, inl, inr}
use mathlib.Core.Bool.{Bool, true, false, cond, ◌&&◌}
use mathlib.Core.List.{List}
use lib.Dec.{ltb, leb}
use lib.ListN.{length, drop, replicate, length-append, length-drop, length-replicate}
use lib.Seq.{drop_at, drop-drop}
use Rattle.formula.specs.Satisfaction.{Interpretation}
use Rattle.theory.specs.Admission.{or_else, first_refusal, Admission}
use Rattle.theory.specs.Refusals.{not_both}
use Rattle.theory.specs.declared.Refusal.{Refusal}
use Rattle.theory.specs.declared.Refusal.TheVariants.{BadEntry}
use Rattle.kept.specs.Tables.{Tables, atom_count, node_count, root_count, root_at, head_at, body_at}
use Rattle.words.specs.Next.{next}
use Rattle.kept.specs.Seen.{seen_by}
use Rattle.kept.specs.Evaluation.{Evaluation, truth}
use Rattle.kept.specs.Verdict.{Verdict, verdict_of}
use Rattle.kept.specs.Start.{walk_start}
use Rattle.kept.specs.Walk.{Walked, ended, broken, walk_from, kept_walk}
use Rattle.kept.specs.Check as check
use Rattle.kept.specs.Check.{entry, seen_entry, node_entry, producer_entry, root_entry, tables_admission, fresh_result, kept_result, is_kept, result}
use Rattle.kept.specs.Layout.{image, section, of_words, written, used, listed}
use Rattle.kept.specs.LayoutLaws.{Fits, room, section-rest, behind-image, length-image, fits_of, fits_fresh}
use Rattle.kept_laws.specs.FitsLaws.{start_fits}
use Rattle.kept_laws.specs.WalkEnds.{Rises, rises_lower, walk_ends}
use Rattle.kept.specs.Candidate.{Candidate, atoms_of}
use Rattle.kept.specs.Tests.{tests}
use Rattle.kept.specs.Outcome.{accepted, refused, Outcome, cleared, concluded, outcome_at, outcome}
use Rattle.kept.specs.TestLaws.{lent_long}

module _ (T : Tables) where
  -- ---- the kept walk

  pub record Ends (J : Interpretation) (e : Evaluation) (ks : List ℕ) (d : Evaluation) : Type 0 where
    pub rises : Rises T 0 (node_count T) ks
    pub finished : d.worklist.first ≡ node_count T
    pub fits : Fits T d

  module _ (J : Interpretation) (e : Evaluation) (f : Fits T e) (ks : List ℕ) (d : Evaluation) where
    from_ends : (o : Option Evaluation) → walk_start T J (atom_count T) e ≡ o → walk_from T o ≡ ended ks d → Ends J e ks d
    from_ends None p h = let z : ◌≡◌ {A = ℕ} 0 1 = cc in absurd (omega arith)
    from_ends (Some s) p h =
        let r = walk_ends T (suc (node_count T)) s d ks (start_fits T J (atom_count T) e s p f) (omega arith, omega arith) h in
        record { rises = rises_lower T 0 s.worklist.first (node_count T) ks (omega arith) r.0; finished = r.1; fits = r.2 }

    pub kept_ends : kept_walk T J e ≡ ended ks d → Ends J e ks d
    unfolding kept_walk
    kept_ends h = go (ltb (next 32 e.candidate (atom_count T)) (32 * length e.candidate)) h
      where
        go : (b : Bool) → cond b (broken 0) (walk_from T (walk_start T J (atom_count T) e)) ≡ ended ks d → Ends J e ks d
        go true h = let z : ◌≡◌ {A = ℕ} 0 1 = cc in absurd (omega arith)
        go false h = from_ends (walk_start T J (atom_count T) e) refl h

  -- so of any words that are long enough
  pub kept_ends_words : (J : Interpretation) (ws ks : List ℕ) (d : Evaluation) → listed T ≤ length ws → kept_walk T J (of_words T ws) ≡ ended ks d → Ends J (of_words T ws) ks d
  kept_ends_words J ws ks d l h = kept_ends J (of_words T ws) (fits_of T ws (omega (arith, room T))) ks d h

  -- ---- a result: an evaluation that fits, or 17

  abbrev Is17 : Refusal → Type 0
  Is17 r = (place : ℕ) × (r ≡ BadEntry place)

  first_17 : (f : ℕ → Admission) → ((k : ℕ) (r : Refusal) → f k ≡ Err r → Is17 r) → (i n : ℕ) (r : Refusal) → first_refusal f i n ≡ Err r → Is17 r
  unfolding first_refusal
  first_17 f h i zero r e = absurd (not_both r (sym e))
  first_17 f h i (suc n) r e = go (f i) refl e (first_17 f h (i + 1) n r)
    where
      go : (a : Admission) → f i ≡ a → or_else a (first_refusal f (i + 1) n) ≡ Err r → (first_refusal f (i + 1) n ≡ Err r → Is17 r) → Is17 r
      go (Ok u) p e ih = ih e
      go (Err s) p e ih = h i r (p ∙ e)

  seen_17 : (k : ℕ) (t : Option Bool) (r : Refusal) → seen_entry k t ≡ Err r → Is17 r
  seen_17 k None r e = (k, cc)
  seen_17 k (Some t) r e = absurd (not_both r (sym e))

  entry_17 : (b : Bool) (place : ℕ) (r : Refusal) → entry b place ≡ Err r → Is17 r
  entry_17 true place r e = absurd (not_both r (sym e))
  entry_17 false place r e = (place, cc)

  or_else_17 : (a b : Admission) (r : Refusal) → (a ≡ Err r → Is17 r) → (b ≡ Err r → Is17 r) → or_else a b ≡ Err r → Is17 r
  or_else_17 (Ok u) b r p q e = q e
  or_else_17 (Err s) b r p q e = p e

  tables_17 : (J : Interpretation) (r : Refusal) → tables_admission T J ≡ Err r → Is17 r
  unfolding tables_admission node_entry producer_entry root_entry
  tables_17 J r =
      or_else_17 (first_refusal (node_entry T J) 0 (node_count T)) (or_else (first_refusal (producer_entry T) 0 T.made) (first_refusal (root_entry T) 0 (root_count T))) r
      (first_17 (node_entry T J) (λ k s. seen_17 k (seen_by T J (truth T J) k) s) 0 (node_count T) r)
      (or_else_17 (first_refusal (producer_entry T) 0 T.made) (first_refusal (root_entry T) 0 (root_count T)) r
      (first_17 (producer_entry T) (λ p s. entry_17 (ltb (head_at T p) (atom_count T) && leb (body_at T p) (node_count T)) 0 s) 0 T.made r)
      (first_17 (root_entry T) (λ p s. entry_17 (ltb (root_at T p) (node_count T)) 0 s) 0 (root_count T) r))

  -- what holds of a result, whatever the tables and the evaluation
  abbrev pub Sound : check.Result → Type 0
  Sound (check.accepted v n d) = Fits T d
  Sound (check.refused r) = Is17 r

  kept-sound : (J : Interpretation) (e : Evaluation) → Fits T e → (w : Walked) → kept_walk T J e ≡ w → Sound (kept_result T w)
  unfolding kept_result
  kept-sound J e f (ended ks d) h = go (verdict_of T d)
    where
      go : (o : Option Verdict) → Sound (check.concluded o (length ks) d)
      go None = (0, refl)
      go (Some v) = (kept_ends J e f ks d h).fits
  kept-sound J e f (broken place) h = (place, refl)

  fresh-sound : (J : Interpretation) (a : Admission) → tables_admission T J ≡ a → Sound (fresh_result T J a)
  unfolding fresh_result
  fresh-sound J (Ok u) h = fits_fresh T J
  fresh-sound J (Err r) h = tables_17 J r h

  pub result_sound : (floor divisor : ℕ) (J : Interpretation) (e : Evaluation) → Fits T e → Sound (result floor divisor T J e)
  unfolding result
  result_sound floor divisor J e f = go (ltb (root_count T) T.made) (is_kept floor divisor T J e)
    where
      go : (a b : Bool) → Sound (cond a (check.refused (BadEntry 0)) (cond b (kept_result T (kept_walk T J e)) (fresh_result T J (tables_admission T J))))
      go true b = (0, refl)
      go false true = kept-sound J e f (kept_walk T J e) refl
      go false false = fresh-sound J (tables_admission T J) refl

  -- ---- an outcome

  -- the length of the words and those past the listed ones stay; a refusal alters none, but for 17, which clears the listed ones
  pub record Keeps (ws : List ℕ) (o : Outcome) : Type 0 where
    pub long : length o.words ≡ length ws
    pub past : drop (listed T) o.words ≡ drop (listed T) ws
    pub refusal : (r : Refusal) → o.answer ≡ refused r → (o.words ≡ ws) ⊎ (Is17 r × (o.words ≡ cleared T ws))

  module _ (ws : List ℕ) (l : listed T ≤ length ws) where
    written_keeps : (v : Verdict) (n : ℕ) (d : Evaluation) → Fits T d → Keeps ws (record { answer = accepted v n; words = written T ws d })
    unfolding written
    written_keeps v n d f =
        let behind : drop (used T) (image d (section T ws 8)) ≡ drop (used T) ws = behind-image T d f (section T ws 8) ∙ section-rest T ws in
        record {
          long = length-image T d f (section T ws 8) ∙ ap (λ n. used T + n) (ap length (section-rest T ws) ∙ length-drop (used T) ws) ∙ (omega (arith, room T));
          past = sym (deeper (image d (section T ws 8))) ∙ ap (drop (listed T - used T)) behind ∙ deeper ws;
          refusal = λ r e. let z : ◌≡◌ {A = ℕ} 0 1 = cc in absurd (omega arith);
        }
      where
        deeper : (xs : List ℕ) → drop (listed T - used T) (drop (used T) xs) ≡ drop (listed T) xs
        deeper xs =
            let e : used T + (listed T - used T) ≡ listed T = omega (arith, room T) in
            drop-drop (listed T - used T) (used T) xs ∙ ap (λ n. drop n xs) e

    cleared_keeps : (r : Refusal) → Is17 r → Keeps ws (record { answer = refused r; words = cleared T ws })
    unfolding cleared
    cleared_keeps r i =
        record {
          long = length-append (replicate (listed T) 0) (drop (listed T) ws) ∙ (omega (arith, length-replicate {A = ℕ} (listed T) 0, length-drop (listed T) ws));
          past = drop_at (replicate (listed T) 0) (drop (listed T) ws) (listed T) (length-replicate {A = ℕ} (listed T) 0);
          refusal = λ s e. let z : r ≡ s = cc in inr (rw z at i, refl);
        }

    concluded_keeps : (x : check.Result) → Sound x → Keeps ws (concluded T ws x)
    concluded_keeps (check.accepted v n d) f = written_keeps v n d f
    concluded_keeps (check.refused r) i = cleared_keeps r i

  pub outcome_keeps : (floor divisor : ℕ) (c : Candidate) (ws : List ℕ) → Keeps ws (outcome floor divisor T c ws)
  unfolding outcome outcome_at
  outcome_keeps floor divisor c ws = go (tests T c (length ws)) refl
    where
      go : (a : Admission) → tests T c (length ws) ≡ a → Keeps ws (outcome_at floor divisor T c ws a)
      go (Err r) e = record { long = refl; past = refl; refusal = λ s h. inl refl }
      go (Ok u) e =
          let l : listed T ≤ length ws = (lent_long T c (length ws) e).1.1.1.1.1.1.0 in
          concluded_keeps ws l (result floor divisor T (atoms_of T c) (of_words T ws)) (result_sound floor divisor (atoms_of T c) (of_words T ws) (fits_of T ws (omega (arith, room T))))
