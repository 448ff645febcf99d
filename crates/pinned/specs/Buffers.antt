-- Refusal 9: each buffer one word shorter than document 01 lists it, alone and with all later ones, which names the lowest; and all as long as listed.
-- Assumes nothing.
use Rattle.std.specs.Prelude.{ℕ, List, [], ◌∷◌, ◌++◌, take}
use Rattle.kept.specs.Verdict.{residual}
use Rattle.drawings.specs.Tables.{counts, example_nodes, example_operands, example_roots}
use Rattle.pinned.specs.Answer.{Answer, refused, loaded, planned, checked, load, plan, certify, check, zeros}
use Rattle.pinned.specs.Bytes.{RT, example_file}
use Rattle.pinned.specs.Lent.{Case, case, theory, room, producers, readers, tables, candidate}

-- plan and certify of the example, with so many words of buffers 1 to 6 and 8
abbrev pub plan_by : ℕ → ℕ → ℕ → ℕ → ℕ → ℕ → ℕ → Answer
plan_by b1 b2 b3 b4 b5 b6 b8 = plan (theory (counts 2 6 2 2) (take b1 example_nodes) (take b2 example_operands) (take b3 example_roots)) (room b4 b5 b6 b8)

abbrev pub certify_by : ℕ → ℕ → ℕ → ℕ → ℕ → ℕ → ℕ → Answer
certify_by b1 b2 b3 b4 b5 b6 b8 =
    certify (theory (counts 2 6 2 2) (take b1 example_nodes) (take b2 example_operands) (take b3 example_roots)) (0 ∷ 1 ∷ []) (room b4 b5 b6 b8)

-- of either
unfoldable pub planning_short : (ℕ → ℕ → ℕ → ℕ → ℕ → ℕ → ℕ → Answer) → List Case
planning_short call =
    case (call 18 2 2 8 2 34 86) (planned 2)
    ∷ case (call 17 2 2 8 2 34 86) (refused (9 ∷ 1 ∷ []))
    ∷ case (call 18 1 2 8 2 34 86) (refused (9 ∷ 2 ∷ []))
    ∷ case (call 18 2 1 8 2 34 86) (refused (9 ∷ 3 ∷ []))
    ∷ case (call 18 2 2 7 2 34 86) (refused (9 ∷ 4 ∷ []))
    ∷ case (call 18 2 2 8 1 34 86) (refused (9 ∷ 5 ∷ []))
    ∷ case (call 18 2 2 8 2 33 86) (refused (9 ∷ 6 ∷ []))
    ∷ case (call 18 2 2 8 2 34 85) (refused (9 ∷ 8 ∷ []))
    ∷ case (call 17 1 1 7 1 33 85) (refused (9 ∷ 1 ∷ []))
    ∷ case (call 18 1 1 7 1 33 85) (refused (9 ∷ 2 ∷ []))
    ∷ case (call 18 2 1 7 1 33 85) (refused (9 ∷ 3 ∷ []))
    ∷ case (call 18 2 2 7 1 33 85) (refused (9 ∷ 4 ∷ []))
    ∷ case (call 18 2 2 8 1 33 85) (refused (9 ∷ 5 ∷ []))
    ∷ case (call 18 2 2 8 2 33 85) (refused (9 ∷ 6 ∷ []))
    ∷ []

-- a check of {1}, with so many words of buffers 0 to 4, 6 and 7
abbrev check_by : ℕ → ℕ → ℕ → ℕ → ℕ → ℕ → ℕ → Answer
check_by b0 b1 b2 b3 b4 b6 b7 =
    check (tables (counts 2 6 2 2) 7 2 (take b1 example_nodes) (take b2 example_operands) (take b3 example_roots) (take b4 producers) (take b6 readers))
    (candidate 7 (take b0 (2 ∷ []))) (zeros b7)

unfoldable pub check_short : List Case
check_short =
    case (check_by 1 18 2 2 8 34 36) (checked (residual 1) 6)
    ∷ case (check_by 0 18 2 2 8 34 36) (refused (9 ∷ 0 ∷ []))
    ∷ case (check_by 1 17 2 2 8 34 36) (refused (9 ∷ 1 ∷ []))
    ∷ case (check_by 1 18 1 2 8 34 36) (refused (9 ∷ 2 ∷ []))
    ∷ case (check_by 1 18 2 1 8 34 36) (refused (9 ∷ 3 ∷ []))
    ∷ case (check_by 1 18 2 2 7 34 36) (refused (9 ∷ 4 ∷ []))
    ∷ case (check_by 1 18 2 2 8 33 36) (refused (9 ∷ 6 ∷ []))
    ∷ case (check_by 1 18 2 2 8 34 35) (refused (9 ∷ 7 ∷ []))
    ∷ case (check_by 0 17 1 1 7 33 35) (refused (9 ∷ 0 ∷ []))
    ∷ case (check_by 1 17 1 1 7 33 35) (refused (9 ∷ 1 ∷ []))
    ∷ case (check_by 1 18 1 1 7 33 35) (refused (9 ∷ 2 ∷ []))
    ∷ case (check_by 1 18 2 1 7 33 35) (refused (9 ∷ 3 ∷ []))
    ∷ case (check_by 1 18 2 2 7 33 35) (refused (9 ∷ 4 ∷ []))
    ∷ case (check_by 1 18 2 2 8 33 35) (refused (9 ∷ 6 ∷ []))
    ∷ []

-- the example's file, into so many words of buffers 1 to 3
abbrev load_by : ℕ → ℕ → ℕ → Answer
load_by b1 b2 b3 = load (example_file ++ RT (5 ∷ []) ++ RT (2 ∷ [])) b1 b2 b3

unfoldable pub load_short : List Case
load_short =
    case (load_by 18 2 2) loaded
    ∷ case (load_by 17 2 2) (refused (9 ∷ 1 ∷ []))
    ∷ case (load_by 18 1 2) (refused (9 ∷ 2 ∷ []))
    ∷ case (load_by 18 2 1) (refused (9 ∷ 3 ∷ []))
    ∷ case (load_by 17 1 1) (refused (9 ∷ 1 ∷ []))
    ∷ case (load_by 18 1 1) (refused (9 ∷ 2 ∷ []))
    ∷ []
