-- Demand 3 of a run: every line for a candidate tells a check of one series, which begins on zeroed words.
-- Assumes nothing.
use Rattle.std.specs.Prelude.{None}
use Prim.Native.Nat.{ℕ, ◌+◌, ◌-◌, ◌≤◌}
use native.Mathlib.Omega.{arith}
use mathlib.Core.Path.{◌≡◌, refl, sym, ap, subst, ◌∙◌}
use mathlib.Core.List.{List, [], ◌∷◌, ◌++◌, map, map-append, append_assoc}
use lib.ListN.{length, take, replicate, length-replicate, replicate-append-replicate}
use Rattle.record.specs.File.{theory_file}
use Rattle.record.specs.declared.Summary.{Summary}
use Rattle.kept.specs.Tables.{Tables}
use Rattle.kept.specs.Layout.{listed}
use Rattle.kept.specs.Series.{zeroed_words, answer_to, words_after, series_words, last_accepted, SeriesCheck, Demand3}
use Rattle.series.proofs.Series.{series}
use Rattle.text.specs.Lines.{theory_line, ranks_line}
use Rattle.run.specs.Text.{candidate_of, check_line, check_lines, own_plan, own_tables, candidates_in, text_of}
use Rattle.run.specs.Planned.{tables_loaded, plan_made, tables_lent, PlannedFile, words_lent}
use Rattle.run.specs.TextLaws.{plan_accepted, loaded_own, load-sound, file_sound}

-- ---- a line and its check

line_of : (T : Tables) (i m : ℕ) (before : List (List ℕ)) (c : List ℕ) (later : List (List ℕ)) (ws : List ℕ) → m ≡ i + length before
    → check_lines T i (before ++ c ∷ later) ws
    ≡ check_lines T i before ws ++ (check_line m (answer_to 64 8 T (candidate_of T c) (words_lent T ws before))
    ++ check_lines T (m + 1) later (words_after 64 8 T (candidate_of T c) (words_lent T ws before)))
unfolding check_lines series_words
line_of T i m [] c later ws e = let q : m ≡ i = omega arith in rw q
line_of T i m (b ∷ before) c later ws e =
    ap (λ l. check_line i (answer_to 64 8 T (candidate_of T b) ws) ++ l) (line_of T (i + 1) m before c later (words_after 64 8 T (candidate_of T b) ws) (omega arith))
    ∙ sym (append_assoc (check_line i (answer_to 64 8 T (candidate_of T b) ws)) (check_lines T (i + 1) before (words_after 64 8 T (candidate_of T b) ws)) _)

zeroed : (T : Tables) (n : ℕ) → listed T ≤ n → zeroed_words T (replicate (n - listed T) 0) ≡ replicate n 0
zeroed T n h =
    let e : listed T + (n - listed T) ≡ n = omega arith in
    replicate-append-replicate (listed T) (n - listed T) 0 ∙ ap (λ k. replicate k 0) e

-- ---- a planned file

module _ (file : List ℕ) (s : Summary) (p : ℕ) (f : PlannedFile file s p) where
  abbrev T : Tables
  T = tables_lent file s p

  abbrev cs : List (List ℕ)
  cs = candidates_in file

  -- the listed words of the kept evaluation fit
  fits : listed T ≤ 4112
  fits =
      let l = (loaded_own (theory_file file) s s own_tables f.sound f.loaded).1 in
      omega (arith, f.few_atoms, l.nodes_long, l.roots_long, length-replicate {A = ℕ} 3072 0, length-replicate {A = ℕ} 512 0)

  -- the text: two lines of the plan, and a line for each candidate
  pub run_text : text_of file ≡ (theory_line s.counts p ++ ranks_line (take s.counts.atoms (plan_made file s).ranks)) ++ check_lines T 0 cs (replicate 4112 0)
  run_text =
      sym
      (plan_accepted s.counts (tables_loaded file).nodes (tables_loaded file).operands (tables_loaded file).roots cs _ _ _ _ _ refl p f.planned
      ∙ load-sound (theory_file file) s f.sound f.few_atoms _ _ refl s f.loaded
      ∙ file_sound file f.short s f.sound)

  -- the series of its checks is as demand 3 says
  pub run_series : (past : List ℕ) → Demand3 64 8 T past (map (candidate_of T) cs)
  unfolding own_plan
  run_series past = series 64 8 s.counts (tables_loaded file).nodes (tables_loaded file).operands (tables_loaded file).roots _ _ _ _ p f.planned past (map (candidate_of T) cs)

  module _ (before : List (List ℕ)) (c : List ℕ) (later : List (List ℕ)) (e : cs ≡ before ++ c ∷ later) where
    -- the candidate's line tells the answer of a check
    pub run_line : check_lines T 0 cs (replicate 4112 0)
        ≡ check_lines T 0 before (replicate 4112 0)
        ++ (check_line (length before) (answer_to 64 8 T (candidate_of T c) (words_lent T (replicate 4112 0) before))
        ++ check_lines T (length before + 1) later (words_after 64 8 T (candidate_of T c) (words_lent T (replicate 4112 0) before)))
    run_line = ap (λ l. check_lines T 0 l (replicate 4112 0)) e ∙ line_of T 0 (length before) before c later (replicate 4112 0) (omega arith)

    -- and that check is as demand 3 says
    pub run_check : SeriesCheck 64 8 T (replicate 4112 0) (last_accepted 64 8 T (replicate 4112 0) None (map (candidate_of T) before)) (words_lent T (replicate 4112 0) before) (candidate_of T c)
    run_check =
        subst
        (λ (z : List ℕ). SeriesCheck 64 8 T z (last_accepted 64 8 T z None (map (candidate_of T) before)) (words_lent T z before) (candidate_of T c))
        (zeroed T 4112 fits)
        ((run_series (replicate (4112 - listed T) 0)).each (map (candidate_of T) before) (candidate_of T c) (map (candidate_of T) later)
        (ap (map (candidate_of T)) e ∙ map-append (candidate_of T) before (c ∷ later)))
