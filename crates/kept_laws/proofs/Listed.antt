-- A check goes by the listed words of the lent buffers: what stands past them does not matter, and past the listed words of the kept evaluation nothing is altered.
-- Assumes nothing.
use Rattle.std.specs.Prelude.{Ok, Err}
use Prim.Native.Nat.{ℕ, ◌≤◌, ◌+◌, ◌-◌, ◌*◌}
use native.Mathlib.Omega.{arith}
use mathlib.Core.Path.{◌≡◌, refl, ap, ap₂, sym, ◌∙◌}
use mathlib.Core.Logic.{⊎_elim}
use mathlib.Core.Bool.{Bool, true, false, cond}
use mathlib.Core.List.{List, [], ◌++◌, append-nil, append_assoc}
use lib.Dec.{ltb}
use lib.ListN.{length, take, drop, replicate, length-replicate}
use lib.Seq.{take_all, take_at, take-append-add, take-take, length-take-le}
use borrow.Author.Tests.{le-ltb, ltb-false}
use Rattle.base.specs.Tests.{below_or}
use Rattle.formula.specs.Satisfaction.{Interpretation}
use Rattle.theory.specs.declared.Refusal.TheVariants.{BadEntry}
use Rattle.words.specs.Sets.{member}
use Rattle.readers.specs.ReaderTable.{reader_words}
use Rattle.kept.specs.SetOf.{words64}
use Rattle.kept.specs.Tables.{Tables, atom_count, node_count, root_count}
use Rattle.kept.specs.Evaluation.{Evaluation}
use Rattle.kept.specs.Walk.{Walked, ended, broken, kept_walk}
use Rattle.kept.specs.Check as check
use Rattle.kept.specs.Check.{kept_result, fresh_result, tables_admission, is_kept, result}
use Rattle.kept.specs.Layout.{flat, image, section, of_words, written, used, listed}
use Rattle.kept.specs.LayoutLaws.{Fits, room, length-image, fits_of, image_of, of_image, written-image}
use Rattle.kept.specs.Candidate.{Candidate, listed_words, atoms_of}
use Rattle.kept.specs.Tests.{first_short, stamps, stray_bit, tests}
use Rattle.kept.specs.TestLaws.{lent_long}
use Rattle.kept.specs.Outcome.{Outcome, cleared, concluded, outcome_at, outcome}
use Rattle.kept_laws.specs.Listed.{listed_tables, listed_candidate, listed_kept, SameTables, SameCandidate, SameKept, SameOutcome}
use Rattle.kept_laws.proofs.AnyWords.{Sound, result_sound, outcome_keeps}
use Rattle.kept_laws.proofs.ListedWalk.{walk-listed, verdict_of-listed}
use Rattle.kept_laws.proofs.ListedFresh.{fresh_result-listed}
use Rattle.theory.specs.Admission.{Admission}

-- ---- the tests before 17

short_listed : (n : ℕ) (xs : List ℕ) → ltb (length (take n xs)) n ≡ ltb (length xs) n
short_listed n xs = ⊎_elim
    (λ l. ap (λ ys. ltb (length ys) n) (take_all n xs (omega arith)))
    (λ l. le-ltb (length (take n xs)) n (omega (arith, length-take-le n xs l)) ∙ sym (le-ltb (length xs) n l))
    (below_or (length xs) n)

module _ (T : Tables) (c : Candidate) where
  candidate-listed : listed_words (listed_tables T) (listed_candidate T c) ≡ listed_words T c
  candidate-listed = take-take (words64 (atom_count T)) (words64 (atom_count T)) c.words (omega arith)

  atoms_listed : atoms_of (listed_tables T) (listed_candidate T c) ≡ atoms_of T c
  unfolding atoms_of
  atoms_listed = ap (λ ws a. member 64 ws a) candidate-listed

  tests-listed : (ws : List ℕ) → tests (listed_tables T) (listed_candidate T c) (length (listed_kept T ws)) ≡ tests T c (length ws)
  unfolding tests first_short stamps stray_bit
  tests-listed ws =
      rw (
        short_listed (words64 (atom_count T)) c.words,
        short_listed (3 * node_count T) T.nodes,
        short_listed T.counts.operands T.operands,
        short_listed (root_count T) T.roots,
        short_listed (4 * root_count T) T.producers,
        short_listed (reader_words T.counts) T.readers,
        short_listed (listed T) ws,
        candidate-listed,
      )

-- ---- the result

module _ (floor divisor : ℕ) (T : Tables) (J : Interpretation) where
  kept_result-listed : (w : Walked) → kept_result (listed_tables T) w ≡ kept_result T w
  unfolding kept_result
  kept_result-listed (ended ks e) = rw (verdict_of-listed T e)
  kept_result-listed (broken place) = refl

  result_listed : (e : Evaluation) → result floor divisor (listed_tables T) J e ≡ result floor divisor T J e
  unfolding result is_kept
  result_listed e = go (ltb (root_count T) T.made) refl
    where
      go : (b : Bool) → ltb (root_count T) T.made ≡ b
          → cond b (check.refused (BadEntry 0)) (cond (is_kept floor divisor T J e) (kept_result (listed_tables T) (kept_walk (listed_tables T) J e)) (fresh_result (listed_tables T) J (tables_admission (listed_tables T) J)))
          ≡ cond b (check.refused (BadEntry 0)) (cond (is_kept floor divisor T J e) (kept_result T (kept_walk T J e)) (fresh_result T J (tables_admission T J)))
      go true q = refl
      go false q =
          let few : T.made ≤ root_count T = ltb-false (root_count T) T.made q in
          ap₂ (cond (is_kept floor divisor T J e)) (ap (kept_result (listed_tables T)) (walk-listed T few J e) ∙ kept_result-listed (kept_walk T J e)) (fresh_result-listed T J few)

-- ---- the words of the kept evaluation

module _ (T : Tables) where
  -- what stands behind an image
  image-split : (e : Evaluation) (rest : List ℕ) → image e rest ≡ image e [] ++ rest
  unfolding image flat
  image-split e rest = simp (append_assoc, append-nil)

  -- two outcomes that differ past the listed words at most
  abbrev Same : Outcome → Outcome → Type 0
  Same o p = (o.answer ≡ p.answer) × SameKept T o.words p.words

  -- the listed words of it
  abbrev left : List ℕ → List ℕ
  left rest = take (listed T - used T) rest

  image-listed : (e : Evaluation) → Fits T e → (rest : List ℕ) → listed_kept T (image e rest) ≡ image e (left rest)
  image-listed e f rest =
      let n : listed T ≡ length (image e []) + (listed T - used T) = omega (arith, room T, length-image T e f []) in
      ap₂ take n (image-split e rest) ∙ take-append-add (image e []) rest (listed T - used T) ∙ sym (image-split e (left rest))

  module _ (ws : List ℕ) (l : listed T ≤ length ws) where
    fits : Fits T (of_words T ws)
    fits = fits_of T ws (omega (arith, room T))

    words_listed : listed_kept T ws ≡ image (of_words T ws) (left (section T ws 8))
    words_listed = ap (listed_kept T) (sym (image_of T ws (omega (arith, room T)))) ∙ image-listed (of_words T ws) fits (section T ws 8)

    held-listed : of_words (listed_tables T) (listed_kept T ws) ≡ of_words T ws
    unfolding of_words
    held-listed = ap (of_words T) words_listed ∙ of_image T (of_words T ws) fits (left (section T ws 8))

    written_listed : (d : Evaluation) → Fits T d → listed_kept T (written (listed_tables T) (listed_kept T ws) d) ≡ listed_kept T (written T ws d)
    unfolding written
    written_listed d f =
        ap (listed_kept T) (ap (λ xs. written T xs d) words_listed ∙ written-image T (of_words T ws) fits (left (section T ws 8)) d
        ∙ sym (image-listed d f (section T ws 8)))
        ∙ take-take (listed T) (listed T) (written T ws d) (omega arith)

    cleared-listed : listed_kept T (cleared (listed_tables T) (listed_kept T ws)) ≡ listed_kept T (cleared T ws)
    unfolding cleared
    cleared-listed =
        take_at (replicate (listed T) 0) (drop (listed T) (listed_kept T ws)) (listed T) (length-replicate {A = ℕ} (listed T) 0)
        ∙ sym (take_at (replicate (listed T) 0) (drop (listed T) ws) (listed T) (length-replicate {A = ℕ} (listed T) 0))

    -- ---- the outcome

    concluded-listed : (x : check.Result) → Sound T x → Same (concluded (listed_tables T) (listed_kept T ws) x) (concluded T ws x)
    concluded-listed (check.accepted v n d) f = (refl, written_listed d f)
    concluded-listed (check.refused r) i = (refl, cleared-listed)

module _ (floor divisor : ℕ) where
  -- a check on the listed words alone
  alone : (T : Tables) (c : Candidate) (ws : List ℕ)
      → Same T (outcome floor divisor (listed_tables T) (listed_candidate T c) (listed_kept T ws)) (outcome floor divisor T c ws)
  unfolding outcome outcome_at
  alone T c ws = rw (tests-listed T c ws) (go (tests T c (length ws)) refl)
    where
      go : (a : Admission) → tests T c (length ws) ≡ a
          → Same T (outcome_at floor divisor (listed_tables T) (listed_candidate T c) (listed_kept T ws) a) (outcome_at floor divisor T c ws a)
      go (Err r) e = (refl, take-take (listed T) (listed T) ws (omega arith))
      go (Ok u) e =
          let l : listed T ≤ length ws = (lent_long T c (length ws) e).1.1.1.1.1.1.0 in
          rw (atoms_listed T c, held-listed T ws l, result_listed floor divisor T (atoms_of T c) (of_words T ws))
          (concluded-listed T ws l (result floor divisor T (atoms_of T c) (of_words T ws)) (result_sound T floor divisor (atoms_of T c) (of_words T ws) (fits T ws l)))

  -- by any tables, planned or not
  pub outcome-listed : (T U : Tables) (c d : Candidate) (ws vs : List ℕ) → SameTables T U → SameCandidate T c d → SameKept T ws vs
      → SameOutcome T ws (outcome floor divisor T c ws) (outcome floor divisor U d vs)
  outcome-listed T U c d ws vs p q r =
      record {
        answer = sym (alone T c ws).0 ∙ ap (λ o. o.answer) middle ∙ (alone U d vs).0;
        words = sym (alone T c ws).1 ∙ ap (λ o. listed_kept T o.words) middle ∙ (rw size (alone U d vs).1);
        past = (outcome_keeps T floor divisor c ws).past;
      }
    where
      size : listed T ≡ listed U
      size = ap listed p

      middle : outcome floor divisor (listed_tables T) (listed_candidate T c) (listed_kept T ws) ≡ outcome floor divisor (listed_tables U) (listed_candidate U d) (listed_kept U vs)
      middle = ap₂ (outcome floor divisor (listed_tables T)) q r ∙ ap (λ X. outcome floor divisor X (listed_candidate X d) (listed_kept X vs)) p
