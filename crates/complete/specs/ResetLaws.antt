-- What a fresh check's reset writes, section by section.
-- Assumes nothing.
use Rattle.std.specs.Prelude.{ℕ, ◌≤◌, ◌+◌, ◌-◌, ◌≡◌, List, [], ◌∷◌, ◌++◌, replicate}
use Rattle.std.proofs.Common.{arith, sym, ◌∙◌, length-drop, length-take-le, drop-drop}
use Rattle.std.proofs.Math.Path.{refl, ap, ap₂}
use Rattle.std.proofs.Math.ListN.{length, set, take, drop, length-replicate}
use Rattle.kept.specs.SetOf.{words32}
use Rattle.kept.specs.Tabulate.{tabulate}
use Rattle.kept.specs.Tables.{Tables, atom_count, node_count, root_count}
use Rattle.kept.specs.Evaluation.{Evaluation}
use Rattle.kept.specs.Parts.{with_worklist, with_support, with_candidate}
use Rattle.kept.specs.Layout.{flat, image, section, of_words, written, worklist_start, candidate_start, missing_start, used}
use Rattle.kept.specs.LayoutLaws.{Fits, fits_of}
use Rattle.words.specs.Halves.{half}
use Rattle.kept_laws.specs.Stores.{with_members, with_others, lend_candidate}
use Rattle.kept_laws.specs.Written.{written_same, written_again, length-written}
use Rattle.kept_laws.specs.Wrote.{mid_holds}
use Rattle.complete.specs.Phases.{opened, emptied, with_halves, begun}
use Rattle.complete.specs.Sections.{zero_parts, total, flat-zeros, lend_worklist_support, lend_missing_groups}

-- a part of the words, from a up to b
pub length_part : (ws : List ℕ) (a b : ℕ) → b ≤ length ws → a ≤ b → length (take (b - a) (drop a ws)) ≡ b - a
length_part ws a b l m = length-take-le (b - a) (drop a ws) (omega (arith, length-drop a ws))

-- the words with y in its place
abbrev pub given : ℕ → ℕ → List ℕ → List ℕ → List ℕ
given a b ws y = take a ws ++ (y ++ drop (b - a) (drop a ws))

given_back : (a b : ℕ) (ws y : List ℕ) → a ≤ b → given a b ws y ≡ take a ws ++ (y ++ drop b ws)
given_back a b ws y l = let e : a + (b - a) ≡ b = omega arith in ap (λ r. take a ws ++ (y ++ r)) (drop-drop (b - a) a ws ∙ ap (λ n. drop n ws) e)

module _ (T : Tables) (ws : List ℕ) (long : used T ≤ length ws) where
  abbrev e : Evaluation
  e = of_words T ws

  fits : Fits T e
  fits = fits_of T ws long

  pub header-laid : set (set (set (set (set (set (set (set ws 0 1) 1 T.counts.stamp) 2 0) 3 0) 4 0) 5 (node_count T)) 6 0) 7 0 ≡ written T ws (opened T e)
  unfolding written image flat opened
  header-laid = ap (λ w. set (set (set (set (set (set (set (set w 0 1) 1 T.counts.stamp) 2 0) 3 0) 4 0) 5 (node_count T)) 6 0) 7 0) (sym (written_same T ws long))

  -- the candidate's section given back as y
  pub halves_laid : (words y : List ℕ) → y ≡ tabulate (length (take (missing_start T - candidate_start T) (drop (candidate_start T) ws))) (half words)
      → given (candidate_start T) (missing_start T) ws y ≡ written T ws (with_halves T words e)
  unfolding written with_halves
  halves_laid words y p =
      let n : length (take (missing_start T - candidate_start T) (drop (candidate_start T) ws)) ≡ words32 (atom_count T) =
      length_part ws (candidate_start T) (missing_start T) (omega arith) (omega arith) ∙ (omega arith) in
      given_back (candidate_start T) (missing_start T) ws y (omega arith)
      ∙ ap (λ w. take (candidate_start T) w ++ (y ++ drop (missing_start T) w)) (sym (written_same T ws long))
      ∙ lend_candidate T e fits (section T ws 8) y
      ∙ ap (λ c. written T ws (with_candidate e c e.missing)) (p ∙ ap (λ m. tabulate m (half words)) n)

  -- the two cleared slices
  zeros : (n : ℕ) (ns : List ℕ) → n ≡ total ns → replicate {A = ℕ} n 0 ≡ flat (zero_parts ns)
  zeros n ns p = ap (λ m. replicate m 0) p ∙ flat-zeros ns

  abbrev half-emptied : Evaluation
  half-emptied =
      with_support (with_worklist e (with_others e.worklist (with_members e.worklist.others (replicate (words32 (node_count T)) 0)))) (replicate (atom_count T) 0) e.missing

  half_fits : Fits T half-emptied
  half_fits =
      record {
        truths = fits.truths;
        worklist = length-replicate {A = ℕ} (words32 (node_count T)) 0;
        support = length-replicate {A = ℕ} (atom_count T) 0;
        candidate = fits.candidate;
        missing = fits.missing;
        false_roots = fits.false_roots;
        groups = fits.groups;
      }

  first_cleared : (y : List ℕ) → y ≡ replicate (length (take (candidate_start T - worklist_start T) (drop (worklist_start T) ws))) 0
      → given (worklist_start T) (candidate_start T) ws y ≡ written T ws half-emptied
  first_cleared y p =
      let n : length (take (candidate_start T - worklist_start T) (drop (worklist_start T) ws)) ≡ total (words32 (node_count T) ∷ atom_count T ∷ []) =
      length_part ws (worklist_start T) (candidate_start T) (omega arith) (omega arith) ∙ (omega arith) in
      given_back (worklist_start T) (candidate_start T) ws y (omega arith)
      ∙ ap₂ (λ w x. take (worklist_start T) w ++ (x ++ drop (candidate_start T) w)) (sym (written_same T ws long)) (p ∙ zeros _ (words32 (node_count T) ∷ atom_count T ∷ []) n)
      ∙ lend_worklist_support T ws e fits (replicate (words32 (node_count T)) 0) (replicate (atom_count T) 0)

  -- lengths of the sections from the missing atoms on
  abbrev ends : List ℕ
  ends = words32 (atom_count T) ∷ words32 (root_count T) ∷ words32 (node_count T) ∷ []

  pub cleared : (y mid z : List ℕ) → y ≡ replicate (length (take (candidate_start T - worklist_start T) (drop (worklist_start T) ws))) 0
      → mid ≡ given (worklist_start T) (candidate_start T) ws y
      → z ≡ replicate (length (take (used T - missing_start T) (drop (missing_start T) mid))) 0
      → given (missing_start T) (used T) mid z ≡ written T ws (emptied T e)
  unfolding emptied
  cleared y mid z p q r =
      let w : mid ≡ written T ws half-emptied = q ∙ first_cleared y p in
      let l : length mid ≡ length ws = ap length w ∙ length-written T ws long half-emptied half_fits in
      let n : length (take (used T - missing_start T) (drop (missing_start T) mid)) ≡ total ends =
      length_part mid (missing_start T) (used T) (rw l long) (omega arith) ∙ (omega arith) in
      given_back (missing_start T) (used T) mid z (omega arith)
      ∙ ap₂ (λ m x. take (missing_start T) m ++ (x ++ drop (used T) m)) w (r ∙ zeros _ ends n)
      ∙ lend_missing_groups T ws half-emptied half_fits (replicate (words32 (atom_count T)) 0) (replicate (words32 (root_count T)) 0) (replicate (words32 (node_count T)) 0)

-- the three one after the other
module _ (T : Tables) where
  pub opened_fits : (e : Evaluation) → Fits T e → Fits T (opened T e)
  unfolding opened
  opened_fits e f = record { truths = f.truths; worklist = f.worklist; support = f.support; candidate = f.candidate; missing = f.missing; false_roots = f.false_roots; groups = f.groups }

  pub emptied_fits : (e : Evaluation) → Fits T e → Fits T (emptied T e)
  unfolding emptied
  emptied_fits e f =
      record {
        truths = f.truths;
        worklist = length-replicate {A = ℕ} (words32 (node_count T)) 0;
        support = length-replicate {A = ℕ} (atom_count T) 0;
        candidate = f.candidate;
        missing = length-replicate {A = ℕ} (words32 (atom_count T)) 0;
        false_roots = length-replicate {A = ℕ} (words32 (root_count T)) 0;
        groups = length-replicate {A = ℕ} (words32 (node_count T)) 0;
      }

  pub begun_fits : (truths candidate : List ℕ) → length truths ≡ node_count T → length candidate ≡ words32 (atom_count T) → Fits T (begun T truths candidate)
  unfolding begun
  begun_fits truths candidate p q =
      record {
        truths = p;
        worklist = length-replicate {A = ℕ} (words32 (node_count T)) 0;
        support = length-replicate {A = ℕ} (atom_count T) 0;
        candidate = q;
        missing = length-replicate {A = ℕ} (words32 (atom_count T)) 0;
        false_roots = length-replicate {A = ℕ} (words32 (root_count T)) 0;
        groups = length-replicate {A = ℕ} (words32 (node_count T)) 0;
      }

  begun_is : (words : List ℕ) (e : Evaluation) → with_halves T words (emptied T (opened T e)) ≡ begun T e.truths (tabulate (words32 (atom_count T)) (half words))
  unfolding with_halves emptied opened begun
  begun_is words e = refl

  pub reset_laid : (ws : List ℕ) → used T ≤ length ws → (words first second after : List ℕ) → first ≡ written T ws (opened T (of_words T ws))
      → second ≡ written T first (emptied T (of_words T first)) → after ≡ written T second (with_halves T words (of_words T second))
      → after ≡ written T ws (begun T (of_words T ws).truths (tabulate (words32 (atom_count T)) (half words)))
  reset_laid ws long words first second after p q r =
      let f : Fits T (opened T (of_words T ws)) = opened_fits (of_words T ws) (fits_of T ws long) in
      let g : Fits T (emptied T (opened T (of_words T ws))) = emptied_fits (opened T (of_words T ws)) f in
      let s : second ≡ written T ws (emptied T (opened T (of_words T ws))) =
      q ∙ ap₂ (λ x y. written T x (emptied T y)) p (mid_holds T ws first (opened T (of_words T ws)) long f p) ∙ written_again T ws long (opened T (of_words T ws)) f (emptied T (opened T (of_words T ws))) in
      r ∙ ap₂ (λ x y. written T x (with_halves T words y)) s (mid_holds T ws second (emptied T (opened T (of_words T ws))) long g s)
      ∙ written_again T ws long (emptied T (opened T (of_words T ws))) g (with_halves T words (emptied T (opened T (of_words T ws))))
      ∙ ap (written T ws) (begun_is words (of_words T ws))
