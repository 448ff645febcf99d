-- Kept or fresh: a check is kept if the words hold a check of this stamp and at most max(64, atoms / 8) atoms changed, division rounded down.
-- Assumes nothing.
use Rattle.std.specs.Prelude.{ℕ, ◌+◌, ◌-◌, ◌*◌, ◌^◌, List, [], ◌∷◌, ◌++◌, replicate}
use Rattle.kept.specs.Tables.{Tables}
use Rattle.kept.specs.Verdict.{residual}
use Rattle.drawings.specs.Tables.{counts}
use Rattle.pinned.specs.Answer.{Answer, checked, check, zeros}
use Rattle.pinned.specs.Lent.{Case, case, tables, candidate}

-- node 0 Atom 0, node 1 Atom 1, no roots; nothing reads a node, atoms 0 and 1 are nodes 0 and 1
abbrev two_nodes : ℕ → Tables
two_nodes atoms =
    tables (counts atoms 2 0 0) 7 0 (0 ∷ 0 ∷ 0 ∷ 0 ∷ 1 ∷ 0 ∷ []) [] [] []
    (replicate 4 (atoms + 4) ++ (atoms + 5) ∷ replicate (atoms - 1) (atoms + 6) ++ 0 ∷ 1 ∷ zeros 4)

-- 16 + 2N + 3A + R words: of a check of {}, and of {1} with 512 atoms, which is missing
abbrev held_none : ℕ → ℕ → ℕ → List ℕ
held_none state stamp atoms = (state ∷ stamp ∷ 0 ∷ 0 ∷ 0 ∷ 2 ∷ 0 ∷ 0 ∷ []) ++ zeros (12 + 3 * atoms)

abbrev held_one : List ℕ
held_one = (1 ∷ 7 ∷ 1 ∷ 0 ∷ 0 ∷ 2 ∷ 0 ∷ 0 ∷ []) ++ (0 ∷ 1 ∷ 0 ∷ []) ++ zeros 512 ++ (2 ∷ zeros 15) ++ (2 ∷ zeros 15) ++ zeros 1001

-- a check of atoms 1 to 63 and those of the second word, after one of {}
abbrev after : ℕ → ℕ → ℕ → Answer
after atoms rest second = check (two_nodes atoms) (candidate 7 ((2 ^ 64 - 2) ∷ second ∷ zeros rest)) (held_none 1 7 atoms)

-- a kept check goes over node 1 alone, a fresh one over both
unfoldable pub thresholds : List Case
thresholds =
    -- with 512 atoms 64 changes are kept and 65 fresh
    case (after 512 6 1) (checked (residual 1) 1)
    ∷ case (after 512 6 3) (checked (residual 1) 2)
    -- with 520, 65 kept and 66 fresh
    ∷ case (after 520 7 3) (checked (residual 1) 1)
    ∷ case (after 520 7 7) (checked (residual 1) 2)
    -- with 527, 65 and 66, as 527 / 8 is rounded down
    ∷ case (after 527 7 3) (checked (residual 1) 1)
    ∷ case (after 527 7 7) (checked (residual 1) 2)
    -- with 66, 64 and 65
    ∷ case (after 66 0 1) (checked (residual 1) 1)
    ∷ case (after 66 0 3) (checked (residual 1) 2)
    -- an atom that leaves counts as changed: from {1} to atoms 2 to 64, and to 65
    ∷ case (check (two_nodes 512) (candidate 7 ((2 ^ 64 - 4) ∷ 1 ∷ zeros 6)) held_one) (checked (residual 2) 1)
    ∷ case (check (two_nodes 512) (candidate 7 ((2 ^ 64 - 4) ∷ 3 ∷ zeros 6)) held_one) (checked (residual 2) 2)
    -- an equal candidate
    ∷ case (check (two_nodes 512) (candidate 7 (2 ∷ zeros 7)) held_one) (checked (residual 1) 0)
    -- a check of another stamp, and no check
    ∷ case (check (two_nodes 66) (candidate 7 (2 ∷ 0 ∷ [])) (held_none 1 8 66)) (checked (residual 1) 2)
    ∷ case (check (two_nodes 66) (candidate 7 (2 ∷ 0 ∷ [])) (held_none 0 7 66)) (checked (residual 1) 2)
    ∷ []
