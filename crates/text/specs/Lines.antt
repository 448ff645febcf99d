-- The lines that the user reads (document 01), as ASCII bytes.
-- Assumes nothing.
use Rattle.std.specs.Prelude.{ℕ, List, [], ◌∷◌, ◌++◌, Option, Some, None}
use Rattle.theory.specs.Refusal.{told}
use Rattle.theory.specs.declared.Counts.{Counts}
use Rattle.theory.specs.declared.Refusal.{Refusal}
use Rattle.kept.specs.Verdict.{Verdict, not_model, residual, stable}
use Rattle.text.specs.Decimal.{decimal}
use Rattle.text.specs.declared.Told.{Told}

-- each number after a space
unfoldable pub spaced : List ℕ → List ℕ
spaced [] = []
spaced (n ∷ ns) = 32 ∷ decimal n ++ spaced ns

-- the words of the lines, in ASCII
abbrev pub th_word : List ℕ
th_word = 116 ∷ 104 ∷ []

abbrev pub atoms_word : List ℕ
atoms_word = 32 ∷ 97 ∷ 116 ∷ 111 ∷ 109 ∷ 115 ∷ []

abbrev pub nodes_word : List ℕ
nodes_word = 32 ∷ 110 ∷ 111 ∷ 100 ∷ 101 ∷ 115 ∷ []

abbrev pub roots_word : List ℕ
roots_word = 32 ∷ 114 ∷ 111 ∷ 111 ∷ 116 ∷ 115 ∷ []

abbrev pub producers_word : List ℕ
producers_word = 32 ∷ 112 ∷ 114 ∷ 111 ∷ 100 ∷ 117 ∷ 99 ∷ 101 ∷ 114 ∷ 115 ∷ []

abbrev pub ranks_word : List ℕ
ranks_word = 114 ∷ 97 ∷ 110 ∷ 107 ∷ 115 ∷ []

abbrev pub not_model_word : List ℕ
not_model_word = 32 ∷ 110 ∷ 111 ∷ 116 ∷ 109 ∷ 111 ∷ 100 ∷ 101 ∷ 108 ∷ []

abbrev pub residual_word : List ℕ
residual_word = 32 ∷ 114 ∷ 101 ∷ 115 ∷ 105 ∷ 100 ∷ 117 ∷ 97 ∷ 108 ∷ []

abbrev pub stable_word : List ℕ
stable_word = 32 ∷ 115 ∷ 116 ∷ 97 ∷ 98 ∷ 108 ∷ 101 ∷ 32 ∷ 45 ∷ []

abbrev pub refused_word : List ℕ
refused_word = 114 ∷ 101 ∷ 102 ∷ 117 ∷ 115 ∷ 101 ∷ 100 ∷ []

-- th STAMP atoms N nodes N roots N producers N
unfoldable pub theory_line : Counts → ℕ → List ℕ
theory_line t producers =
    th_word ++ spaced (t.stamp ∷ [])
    ++ atoms_word ++ spaced (t.atoms ∷ [])
    ++ nodes_word ++ spaced (t.nodes ∷ [])
    ++ roots_word ++ spaced (t.roots ∷ [])
    ++ producers_word ++ spaced (producers ∷ [])
    ++ (10 ∷ [])

-- ranks R R ..
unfoldable pub ranks_line : List ℕ → List ℕ
ranks_line ranks = ranks_word ++ spaced ranks ++ (10 ∷ [])

-- notmodel ROOT, residual ATOM, stable -
unfoldable pub verdict_text : Verdict → List ℕ
verdict_text (not_model root) = not_model_word ++ spaced (root ∷ [])
verdict_text (residual atom) = residual_word ++ spaced (atom ∷ [])
verdict_text stable = stable_word

-- NUMBER VERDICT NODES
unfoldable pub verdict_line : ℕ → Verdict → ℕ → List ℕ
verdict_line i v n = decimal i ++ verdict_text v ++ spaced (n ∷ []) ++ (10 ∷ [])

-- refused NUMBER PLACE, and for 11 the body too
unfoldable pub refused_line : Refusal → List ℕ
refused_line r = refused_word ++ spaced (told r) ++ (10 ∷ [])

-- the numbers that `Told` holds
abbrev pub told_by : ℕ → ℕ → Option ℕ → List ℕ
told_by number place None = number ∷ place ∷ []
told_by number place (Some body) = number ∷ place ∷ body ∷ []

abbrev pub told_of : Told → List ℕ
told_of t = told_by t.number t.place t.body
