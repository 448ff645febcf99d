-- Document 01's table of refusals: the small input of each number, the same numbers of lent tables, and the orders in which refusals are told.
-- Assumes nothing.
use Rattle.std.specs.Prelude.{ℕ, List, [], ◌∷◌, ◌++◌, set, take}
use Rattle.kept.specs.Verdict.{residual, stable}
use Rattle.drawings.specs.Tables.{counts, example_nodes, example_operands, example_roots, five_nodes, five_roots, six_nodes, six_roots}
use Rattle.pinned.specs.Answer.{Answer, refused, planned, checked, load, plan, certify, check, zeros}
use Rattle.pinned.specs.Bytes.{Th, NA, NF, NI, NC, RT, CA, example_file}
use Rattle.pinned.specs.Lent as lent
use Rattle.pinned.specs.Lent.{Case, case, theory, room, example, enough, producers, readers, tables, candidate, after_none}

-- row by row, 1 to 17
unfoldable pub rows : List Case
rows =
    -- empty file, place 0
    case (load [] 18 2 2) (refused (1 ∷ 0 ∷ []))
    -- Th and 3 bytes
    ∷ case (load (84 ∷ 72 ∷ 7 ∷ 0 ∷ 0 ∷ []) 18 2 2) (refused (2 ∷ 0 ∷ []))
    -- Th 0 65537
    ∷ case (load (Th (0 ∷ 65537 ∷ [])) 18 2 2) (refused (3 ∷ 0 ∷ []))
    -- NA 2 of 2 atoms, record 1
    ∷ case (load (Th (7 ∷ 2 ∷ []) ++ NA (2 ∷ [])) 18 2 2) (refused (4 ∷ 1 ∷ []))
    -- node 0 NI 0 0, record 1
    ∷ case (load (Th (7 ∷ 2 ∷ []) ++ NI (0 ∷ 0 ∷ [])) 18 2 2) (refused (5 ∷ 1 ∷ []))
    -- NC 0, record 1
    ∷ case (load (Th (7 ∷ 2 ∷ []) ++ NC (0 ∷ [])) 18 2 2) (refused (6 ∷ 1 ∷ []))
    -- RT 6 of 6 nodes, record 7
    ∷ case (load (example_file ++ RT (6 ∷ [])) 18 2 2) (refused (7 ∷ 7 ∷ []))
    -- CA 2 1 1, record 1
    ∷ case (load (Th (7 ∷ 2 ∷ []) ++ CA (2 ∷ 1 ∷ 1 ∷ [])) 18 2 2) (refused (8 ∷ 1 ∷ []))
    -- buffer 5 of 1 word for 2 atoms
    ∷ case (plan example (room 8 1 34 86)) (refused (9 ∷ 5 ∷ []))
    -- root And(0, 1), node 2
    ∷ case (plan (theory (counts 2 3 2 1) (0 ∷ 0 ∷ 0 ∷ 0 ∷ 1 ∷ 0 ∷ 3 ∷ 0 ∷ 2 ∷ []) (0 ∷ 1 ∷ []) (2 ∷ [])) enough) (refused (10 ∷ 2 ∷ []))
    -- case C6: root 4, body 2
    ∷ case (plan (theory (counts 3 5 0 1) six_nodes [] six_roots) (room 8 3 34 86)) (refused (11 ∷ 4 ∷ 2 ∷ []))
    -- case C5: atom 0
    ∷ case (plan (theory (counts 3 6 0 3) five_nodes [] five_roots) (room 12 3 35 88)) (refused (12 ∷ 0 ∷ []))
    -- ranks 0 2 above
    ∷ case (certify example (0 ∷ 2 ∷ []) enough) (refused (13 ∷ 0 ∷ []))
    -- ranks 0 0 above, head 1
    ∷ case (certify example (0 ∷ 0 ∷ []) enough) (refused (14 ∷ 1 ∷ []))
    -- stamp 8 for 7
    ∷ case (check lent.planned (candidate 8 (2 ∷ [])) (zeros 36)) (refused (15 ∷ 0 ∷ []))
    -- bit 2 of 2 atoms
    ∷ case (check lent.planned (candidate 7 (4 ∷ [])) (zeros 36)) (refused (16 ∷ 2 ∷ []))
    -- a root position of 9 of 2
    ∷ case (check lent.planned (candidate 7 (0 ∷ [])) (set (set after_none 3 1) 19 512)) (refused (17 ∷ 0 ∷ []))
    ∷ []

-- a file is judged record by record, and a record in the order 1, 2, 3, 6, 4, 5, 7, 8; then 9
unfoldable pub file_order : List Case
file_order =
    -- a node before Th, Th twice, a node behind a root, a root behind a candidate
    case (load NF 18 2 2) (refused (1 ∷ 0 ∷ []))
    ∷ case (load (Th (7 ∷ 2 ∷ []) ++ Th (7 ∷ 2 ∷ [])) 18 2 2) (refused (1 ∷ 1 ∷ []))
    ∷ case (load (Th (7 ∷ 2 ∷ []) ++ NF ++ RT (0 ∷ []) ++ NF) 18 2 2) (refused (1 ∷ 3 ∷ []))
    ∷ case (load (Th (7 ∷ 2 ∷ []) ++ NF ++ CA (0 ∷ []) ++ RT (0 ∷ [])) 18 2 2) (refused (1 ∷ 3 ∷ []))
    -- an unknown mark and no more; a byte of a mark
    ∷ case (load (78 ∷ 88 ∷ []) 18 2 2) (refused (1 ∷ 0 ∷ []))
    ∷ case (load (Th (7 ∷ 2 ∷ []) ++ (78 ∷ [])) 18 2 2) (refused (2 ∷ 1 ∷ []))
    -- Th 0 65537 without its last byte
    ∷ case (load (take 9 (Th (0 ∷ 65537 ∷ []))) 18 2 2) (refused (2 ∷ 0 ∷ []))
    -- CA 3 1 1 2 of 2 atoms
    ∷ case (load (Th (7 ∷ 2 ∷ []) ++ CA (3 ∷ 1 ∷ 1 ∷ 2 ∷ [])) 18 2 2) (refused (4 ∷ 1 ∷ []))
    -- two bad records, and no room for either
    ∷ case (load (example_file ++ RT (6 ∷ []) ++ CA (2 ∷ 1 ∷ 1 ∷ [])) 0 0 0) (refused (7 ∷ 7 ∷ []))
    ∷ []

-- of lent tables: 3 names the table, 1, 6, 4 and 5 the node, 7 the root position
unfoldable pub tabled : List Case
tabled =
    -- 65,537 atoms, 262,145 nodes, 1,048,577 operand entries, 262,145 roots
    case (plan (theory (counts 65537 6 2 2) example_nodes example_operands example_roots) enough) (refused (3 ∷ 0 ∷ []))
    ∷ case (plan (theory (counts 2 262145 2 2) example_nodes example_operands example_roots) enough) (refused (3 ∷ 1 ∷ []))
    ∷ case (plan (theory (counts 2 6 1048577 2) example_nodes example_operands example_roots) enough) (refused (3 ∷ 2 ∷ []))
    ∷ case (plan (theory (counts 2 6 2 262145) example_nodes example_operands example_roots) enough) (refused (3 ∷ 3 ∷ []))
    -- the limits themselves are not passed: 9 comes next
    ∷ case (plan (theory (counts 65536 262144 1048576 262144) example_nodes example_operands example_roots) enough) (refused (9 ∷ 1 ∷ []))
    -- node 3 of kind 5
    ∷ case (plan (theory (counts 2 6 2 2) (set example_nodes 9 5) example_operands example_roots) enough) (refused (1 ∷ 3 ∷ []))
    -- node 5 Or of no operands
    ∷ case (plan (theory (counts 2 6 2 2) (set example_nodes 17 0) example_operands example_roots) enough) (refused (6 ∷ 5 ∷ []))
    -- node 1 Atom 2 of 2
    ∷ case (plan (theory (counts 2 6 2 2) (set example_nodes 4 2) example_operands example_roots) enough) (refused (4 ∷ 1 ∷ []))
    -- node 2 Implies 2 1
    ∷ case (plan (theory (counts 2 6 2 2) (set example_nodes 7 2) example_operands example_roots) enough) (refused (5 ∷ 2 ∷ []))
    -- node 5 Or of itself
    ∷ case (plan (theory (counts 2 6 2 2) example_nodes (0 ∷ 5 ∷ []) example_roots) enough) (refused (5 ∷ 5 ∷ []))
    -- its span begins at 1, with one operand; and passes the table
    ∷ case (plan (theory (counts 2 6 2 2) (set (set example_nodes 16 1) 17 1) example_operands example_roots) enough) (refused (5 ∷ 5 ∷ []))
    ∷ case (plan (theory (counts 2 6 2 2) (set example_nodes 17 3) (0 ∷ 4 ∷ 0 ∷ []) example_roots) enough) (refused (5 ∷ 5 ∷ []))
    -- root position 1 names node 6 of 6
    ∷ case (plan (theory (counts 2 6 2 2) example_nodes example_operands (5 ∷ 6 ∷ [])) enough) (refused (7 ∷ 1 ∷ []))
    -- proposed ranks of wrong length are 13, not 9
    ∷ case (certify example (0 ∷ []) enough) (refused (13 ∷ 0 ∷ []))
    ∷ case (certify example (0 ∷ 1 ∷ 0 ∷ []) enough) (refused (13 ∷ 0 ∷ []))
    ∷ []

-- Atom 0, Atom 1, And(0, 1), Implies(0, 1), Implies(1, 0), Implies(3, 0)
abbrev order_nodes : List ℕ
order_nodes = 0 ∷ 0 ∷ 0 ∷ 0 ∷ 1 ∷ 0 ∷ 3 ∷ 0 ∷ 2 ∷ 2 ∷ 0 ∷ 1 ∷ 2 ∷ 1 ∷ 0 ∷ 2 ∷ 3 ∷ 0 ∷ []

abbrev order_room : ℕ → ℕ → Answer
order_room atoms work = plan (theory (counts atoms 6 2 5) (set order_nodes 15 5) (0 ∷ 1 ∷ []) (2 ∷ 5 ∷ 3 ∷ 4 ∷ 9 ∷ [])) (room 20 2 40 work)

abbrev order_of : ℕ → List ℕ → Answer
order_of n roots = plan (theory (counts 2 6 2 n) order_nodes (0 ∷ 1 ∷ []) roots) (room 20 2 40 95)

abbrev order_certified : ℕ → List ℕ → List ℕ → Answer
order_certified n roots proposed = certify (theory (counts 2 6 2 n) order_nodes (0 ∷ 1 ∷ []) roots) proposed (room 20 2 40 95)

-- planning: 3 by counts, 9, then 1 by node and 7 by root, then 10 and 11 by root, then 12, or 13 and 14; a theory that has all of them, mended one by one
unfoldable pub planning_order : List Case
planning_order =
    case (order_room 65537 94) (refused (3 ∷ 0 ∷ []))
    ∷ case (order_room 2 94) (refused (9 ∷ 8 ∷ []))
    ∷ case (order_room 2 95) (refused (1 ∷ 5 ∷ []))
    ∷ case (order_of 5 (2 ∷ 5 ∷ 3 ∷ 4 ∷ 9 ∷ [])) (refused (7 ∷ 4 ∷ []))
    ∷ case (order_of 4 (2 ∷ 5 ∷ 3 ∷ 4 ∷ [])) (refused (10 ∷ 2 ∷ []))
    ∷ case (order_of 3 (5 ∷ 3 ∷ 4 ∷ [])) (refused (11 ∷ 5 ∷ 3 ∷ []))
    ∷ case (order_of 2 (3 ∷ 4 ∷ [])) (refused (12 ∷ 0 ∷ []))
    ∷ case (order_of 1 (3 ∷ [])) (planned 1)
    ∷ case (order_certified 3 (5 ∷ 3 ∷ 4 ∷ []) (0 ∷ 2 ∷ [])) (refused (11 ∷ 5 ∷ 3 ∷ []))
    ∷ case (order_certified 1 (3 ∷ []) (2 ∷ 0 ∷ [])) (refused (13 ∷ 0 ∷ []))
    ∷ case (order_certified 1 (3 ∷ []) (1 ∷ 0 ∷ [])) (refused (14 ∷ 1 ∷ []))
    ∷ case (order_certified 1 (3 ∷ []) (0 ∷ 1 ∷ [])) (planned 1)
    ∷ []

-- a check by the example with node 3 of kind 5, of so many atoms and words of the node table
abbrev order_check : ℕ → ℕ → ℕ → ℕ → Answer
order_check atoms words stamp word =
    check (tables (counts atoms 6 2 2) 7 2 (take words (set example_nodes 9 5)) example_operands example_roots producers readers) (candidate stamp (word ∷ [])) (zeros 36)

-- checking: 3 by counts, 9, 15, 16, then 17
unfoldable pub checking_order : List Case
checking_order =
    case (order_check 65537 17 8 6) (refused (3 ∷ 0 ∷ []))
    ∷ case (order_check 2 17 8 6) (refused (9 ∷ 1 ∷ []))
    ∷ case (order_check 2 18 8 6) (refused (15 ∷ 0 ∷ []))
    ∷ case (order_check 2 18 7 6) (refused (16 ∷ 2 ∷ []))
    ∷ case (order_check 2 18 7 2) (refused (17 ∷ 3 ∷ []))
    ∷ case (check lent.planned (candidate 7 (2 ∷ [])) (zeros 36)) (checked (residual 1) 6)
    ∷ []

-- 66 atoms, no nodes
abbrev wide : List ℕ → Answer
wide words = check (tables (counts 66 0 0 0) 7 0 [] [] [] [] (zeros 68)) (candidate 7 words) (zeros 214)

-- 15 is the candidate's stamp or the plan's; 16 names the lowest bit, words past the listed ones are ignored
unfoldable pub stamps_and_bits : List Case
stamps_and_bits =
    case (check lent.planned (candidate 8 (2 ∷ [])) (zeros 36)) (refused (15 ∷ 0 ∷ []))
    ∷ case (check (tables (counts 2 6 2 2) 8 2 example_nodes example_operands example_roots producers readers) (candidate 7 (2 ∷ [])) (zeros 36)) (refused (15 ∷ 0 ∷ []))
    ∷ case (check (tables (counts 2 6 2 2) 8 2 example_nodes example_operands example_roots producers readers) (candidate 8 (2 ∷ [])) (zeros 36)) (refused (15 ∷ 0 ∷ []))
    ∷ case (check lent.planned (candidate 7 (27 ∷ [])) (zeros 36)) (refused (16 ∷ 3 ∷ []))
    ∷ case (wide (0 ∷ 68 ∷ [])) (refused (16 ∷ 66 ∷ []))
    ∷ case (wide (0 ∷ 65 ∷ [])) (refused (16 ∷ 70 ∷ []))
    ∷ case (wide (0 ∷ 0 ∷ 1 ∷ [])) (checked stable 0)
    ∷ []
