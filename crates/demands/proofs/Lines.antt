-- The lines of a run's checks, one by one.
-- Assumes nothing.
use Prim.Native.Nat.{ℕ, zero, suc, ◌+◌, ◌<◌}
use native.Mathlib.Omega.{arith}
use mathlib.Core.Path.{◌≡◌, refl, sym, ap, ◌∙◌}
use mathlib.Core.List.{List, [], ◌∷◌, ◌++◌}
use lib.ListN.{length, get_or, take, drop, take-append-drop}
use lib.Seq.{drop-cons}
use Rattle.kept.specs.Tables.{Tables}
use Rattle.kept.specs.Candidate.{Candidate}
use Rattle.kept.specs.Layout.{flat}
use Rattle.kept.specs.Series.{answer_to, words_after, series_words}
use Rattle.kept_laws.proofs.AnyWords.{outcome_keeps}
use Rattle.run.specs.Text.{candidate_of, check_line, check_lines}
use Rattle.run.specs.Planned.{words_lent}

unfoldable pub lines_of : Tables → ℕ → List (List ℕ) → List ℕ → List (List ℕ)
lines_of T i [] ws = []
lines_of T i (c ∷ cs) ws = check_line i (answer_to 64 8 T (candidate_of T c) ws) ∷ lines_of T (i + 1) cs (words_after 64 8 T (candidate_of T c) ws)

pub flat_lines : (T : Tables) (i : ℕ) (cs : List (List ℕ)) (ws : List ℕ) → check_lines T i cs ws ≡ flat (lines_of T i cs ws)
unfolding check_lines lines_of flat
flat_lines T i [] ws = refl
flat_lines T i (c ∷ cs) ws = ap (λ l. check_line i (answer_to 64 8 T (candidate_of T c) ws) ++ l) (flat_lines T (i + 1) cs (words_after 64 8 T (candidate_of T c) ws))

pub length-lines : (T : Tables) (i : ℕ) (cs : List (List ℕ)) (ws : List ℕ) → length (lines_of T i cs ws) ≡ length cs
unfolding lines_of
length-lines T i [] ws = refl
length-lines T i (c ∷ cs) ws = ap suc (length-lines T (i + 1) cs (words_after 64 8 T (candidate_of T c) ws))

pub line_at : (T : Tables) (i j : ℕ) (cs : List (List ℕ)) (ws : List ℕ) → j < length cs
    → get_or (lines_of T i cs ws) j [] ≡ check_line (i + j) (answer_to 64 8 T (candidate_of T (get_or cs j [])) (words_lent T ws (take j cs)))
unfolding lines_of series_words
line_at T i j [] ws l = absurd (omega arith)
line_at T i zero (c ∷ cs) ws l = let e : i + zero ≡ i = omega arith in rw e
line_at T i (suc j) (c ∷ cs) ws l =
    let e : i + suc j ≡ i + 1 + j = omega arith in
    rw e (line_at T (i + 1) j cs (words_after 64 8 T (candidate_of T c) ws) (omega arith))

-- candidate j and those round it
pub parts_at : (cs : List (List ℕ)) (j : ℕ) → j < length cs → cs ≡ take j cs ++ get_or cs j [] ∷ drop (suc j) cs
parts_at cs j l = sym (take-append-drop j cs) ∙ ap (λ r. take j cs ++ r) (drop-cons cs j [] l)

-- every check keeps the length of the words
pub length_series : (T : Tables) (ws : List ℕ) (cs : List Candidate) → length (series_words 64 8 T ws cs) ≡ length ws
unfolding series_words
length_series T ws [] = refl
length_series T ws (c ∷ cs) = length_series T (words_after 64 8 T c ws) cs ∙ (outcome_keeps T 64 8 c ws).long
