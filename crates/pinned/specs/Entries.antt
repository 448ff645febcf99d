-- Refusal 17, cause by cause: an entry met that is out of its range, in a fresh check and in a kept one; the place is the node being read, else 0.
-- Assumes nothing.
use Rattle.std.specs.Prelude.{ℕ, ◌+◌, ◌*◌, ◌^◌, List, [], ◌∷◌, ◌++◌, set}
use Rattle.kept.specs.Tables.{Tables}
use Rattle.kept.specs.Verdict.{residual, stable}
use Rattle.drawings.specs.Tables.{counts, example_nodes, example_operands, example_roots}
use Rattle.pinned.specs.Answer as answers
use Rattle.pinned.specs.Answer.{refused, checked, zeros}
use Rattle.pinned.specs.Written.{Writing, writing, left, check}
use Rattle.pinned.specs.Lent.{Case, case, producers, readers, tables, planned, candidate, after_none, after_zero}

-- a check of a candidate of one word, by tables and 36 kept words, is refused 17 with that place; then the listed words are 0, and the one past them is as it was
abbrev entry : Tables → List ℕ → ℕ → ℕ → Writing
entry T kept word place = writing (check T (candidate 7 (word ∷ [])) (kept ++ (9 ∷ []))) (left (refused (17 ∷ place ∷ [])) ((zeros 36 ++ (9 ∷ [])) ∷ []))

-- ---- a fresh check, of {1}

abbrev no_check : List ℕ
no_check = zeros 36

abbrev of : List ℕ → List ℕ → List ℕ → List ℕ → List ℕ → Tables
of nodes operands roots ps us = tables (counts 2 6 2 2) 7 2 nodes operands roots ps us

abbrev by_nodes : List ℕ → Tables
by_nodes nodes = of nodes example_operands example_roots producers readers

abbrev by_readers : List ℕ → Tables
by_readers us = of example_nodes example_operands example_roots producers us

unfoldable pub fresh : List Writing
fresh =
    -- an unknown kind: node 3 of kind 5
    entry (by_nodes (set example_nodes 9 5)) no_check 2 3
    -- outside the atoms: node 1 Atom 2
    ∷ entry (by_nodes (set example_nodes 4 2)) no_check 2 1
    -- an operand not below its node: node 2 Implies 2 1 and Implies 0 2, node 5 Or 5 4
    ∷ entry (by_nodes (set example_nodes 7 2)) no_check 2 2
    ∷ entry (by_nodes (set example_nodes 8 2)) no_check 2 2
    ∷ entry (of example_nodes (5 ∷ 4 ∷ []) example_roots producers readers) no_check 2 5
    -- outside the operand table: node 5 Or of two from 1
    ∷ entry (by_nodes (set example_nodes 16 1)) no_check 2 5
    -- a producer's head outside the atoms, its body outside the nodes (node + 1)
    ∷ entry (of example_nodes example_operands example_roots (set producers 4 2) readers) no_check 2 0
    ∷ entry (of example_nodes example_operands example_roots (set producers 5 7) readers) no_check 2 0
    -- a root that is no node
    ∷ entry (of example_nodes example_operands (5 ∷ 6 ∷ []) producers readers) no_check 2 0
    -- more producers than roots
    ∷ entry (tables (counts 2 6 2 2) 7 3 example_nodes example_operands example_roots producers readers) no_check 2 0
    -- nodes are met rising, then producers: nodes 1 and 3 at once, node 3 and a head
    ∷ entry (by_nodes (set (set example_nodes 9 5) 4 2)) no_check 2 1
    ∷ entry (of (set example_nodes 9 5) example_operands example_roots (set producers 4 2) readers) no_check 2 3
    ∷ []

-- ---- a kept check, from {} to {1}: nodes 1 and 2; to {0}: nodes 0, 2, 4 and 5

unfoldable pub kept : List Writing
kept =
    -- node 4 of kind 5
    entry (by_nodes (set example_nodes 12 5)) after_none 1 4
    -- node 1 Atom 2
    ∷ entry (by_nodes (set example_nodes 4 2)) after_none 2 1
    -- node 2 Implies 2 1, node 5 Or 0 5 after node 0 has become false
    ∷ entry (by_nodes (set example_nodes 7 2)) after_none 1 2
    ∷ entry (of example_nodes (0 ∷ 5 ∷ []) example_roots producers readers) after_zero 0 5
    -- node 5 Or of two from 1
    ∷ entry (by_nodes (set example_nodes 16 1)) after_none 1 5
    -- nodes 2 and 4 at once
    ∷ entry (by_nodes (set (set example_nodes 12 5) 7 2)) after_none 1 2
    -- node 1 is read by producer 1, whose head is outside the atoms; by producer 2 of 2; by root 2 of 2
    ∷ entry (of example_nodes example_operands example_roots (set producers 4 2) (set readers 14 (2 * 2 ^ 62 + 1))) after_none 2 1
    ∷ entry (by_readers (set readers 14 (2 * 2 ^ 62 + 2))) after_none 2 1
    ∷ entry (by_readers (set readers 14 (3 * 2 ^ 62 + 2))) after_none 2 1
    -- by itself, by node 0, by node 6 of 6, by a word of tag 1
    ∷ entry (by_readers (set readers 14 1)) after_none 2 1
    ∷ entry (by_readers (set readers 14 0)) after_none 2 1
    ∷ entry (by_readers (set readers 14 6)) after_none 2 1
    ∷ entry (by_readers (set readers 14 (2 ^ 62 + 2))) after_none 2 1
    -- the readers of node 1 end before they start, or past the table
    ∷ entry (by_readers (set readers 2 13)) after_none 2 1
    ∷ entry (by_readers (set readers 2 35)) after_none 2 1
    -- so do the nodes of atom 1; its node is 6 of 6
    ∷ entry (by_readers (set readers 9 19)) after_none 2 0
    ∷ entry (by_readers (set readers 9 35)) after_none 2 0
    ∷ entry (by_readers (set readers 20 6)) after_none 2 0
    -- a kept count would leave its range, as node 2 is read: false roots below 0, and above 2
    ∷ entry planned (set after_zero 3 0) 3 2
    ∷ entry planned (set after_none 3 2) 1 2
    -- as node 1 is read by producer 1: support above 2, and below 0
    ∷ entry (by_readers (set readers 14 (2 * 2 ^ 62 + 1))) (set after_none 16 2) 2 1
    ∷ entry (by_readers (set readers 14 (2 * 2 ^ 62 + 1))) (set (set (set after_none 9 1) 16 0) 17 2) 0 1
    -- as no node is read: missing atoms above 2
    ∷ entry planned (set after_none 2 2) 2 0
    -- a root position of 9 of 2; an atom 9 of 2 that is missing; a count without members
    ∷ entry planned (set (set after_none 3 1) 19 512) 0 0
    ∷ entry planned (set (set after_none 2 1) 18 512) 0 0
    ∷ entry planned (set after_none 3 1) 0 0
    -- after {0} the second root is the first false one, and is no node: 6, and the greatest number
    ∷ entry (of example_nodes example_operands (5 ∷ 6 ∷ []) producers readers) after_zero 1 0
    ∷ entry (of example_nodes example_operands (5 ∷ 4294967295 ∷ []) producers readers) after_zero 1 0
    -- the first waiting node is 7 of 6; node 9 of 6 waits
    ∷ entry planned (set after_none 5 7) 0 0
    ∷ entry planned (set (set (set (set after_none 4 1) 5 2) 14 512) 20 1) 0 0
    -- node 3 waits behind node 2, but 40 of 6 is remembered as the only one that does
    ∷ entry planned (set (set (set (set (set (set after_none 4 1) 5 2) 6 40) 7 1) 14 8) 20 1) 0 0
    -- more producers than roots
    ∷ entry (tables (counts 2 6 2 2) 7 3 example_nodes example_operands example_roots producers readers) after_none 2 0
    -- a candidate bit at or above the atoms
    ∷ entry planned (set after_none 17 4) 0 0
    ∷ []

-- ---- what is not met is not refused

unfoldable pub unmet : List Case
unmet =
    -- from {} to {1} node 3, of kind 5, is not gone over
    case (answers.check (by_nodes (set example_nodes 9 5)) (candidate 7 (2 ∷ [])) after_none) (checked (residual 1) 2)
    -- nor is a root's node read
    ∷ case (answers.check (of example_nodes example_operands (5 ∷ 6 ∷ []) producers readers) (candidate 7 (2 ∷ [])) after_none) (checked (residual 1) 2)
    -- node 5 Or 0 5: the first operand decides
    ∷ case (answers.check (of example_nodes (0 ∷ 5 ∷ []) example_roots producers readers) (candidate 7 (3 ∷ [])) no_check) (checked stable 6)
    ∷ []
