-- What the calls leave in the lent words: what they write, and words past it as they were; the whole work area is 0 after every call. A refused call alters nothing else; 17 is apart (Entries).
-- Assumes nothing.
use Rattle.std.specs.Prelude.{ℕ, List, [], ◌∷◌, ◌++◌, replicate}
use Rattle.record.specs.File.{theory_file}
use Rattle.load.specs.Tables as loads
use Rattle.load.specs.Loading.{loading}
use Rattle.plan.specs.Outcome as plans
use Rattle.plan.specs.Outcome.{plan_outcome, certify_outcome}
use Rattle.kept.specs.Tables.{Tables}
use Rattle.kept.specs.Candidate.{Candidate}
use Rattle.kept.specs.Verdict.{stable, not_model}
use Rattle.kept.specs.Outcome.{outcome}
use Rattle.drawings.specs.Tables.{counts, example_nodes, example_operands, example_roots, five_nodes, five_roots}
use Rattle.pinned.specs.Answer.{Answer, refused, loaded, planned, checked, loaded_as, planned_as, checked_as, zeros}
use Rattle.pinned.specs.Bytes.{example_file, RT}
use Rattle.pinned.specs.Lent as lent
use Rattle.pinned.specs.Lent.{producers, reader_lists, readers, tables, candidate, after_none, after_zero}

-- an answer, and the lent words after it, a list for each buffer
pub record Left : Type 0 where
  pub answer : Answer
  pub words : List (List ℕ)

pub record Writing : Type 0 where
  pub left : Left
  pub expected : Left

abbrev nines : ℕ → List ℕ
nines n = replicate n 9

abbrev pub left : Answer → List (List ℕ) → Left
left answer words = record { answer = answer; words = words }

abbrev pub writing : Left → Left → Writing
writing l expected = record { left = l; expected = expected }

-- ---- load: buffers 1, 2 and 3

abbrev load : List ℕ → ℕ → ℕ → ℕ → Left
load file b1 b2 b3 =
    let o = loading (theory_file file) (loads.tables (nines b1) (nines b2) (nines b3)) in
    left (loaded_as o.answer) (o.left.nodes ∷ o.left.operands ∷ o.left.roots ∷ [])

unfoldable pub loadings : List Writing
loadings =
    writing (load (example_file ++ RT (5 ∷ []) ++ RT (2 ∷ [])) 19 3 3)
    (left loaded ((0 ∷ 0 ∷ 0 ∷ 0 ∷ 1 ∷ 0 ∷ 2 ∷ 0 ∷ 1 ∷ 1 ∷ 0 ∷ 0 ∷ 2 ∷ 0 ∷ 3 ∷ 4 ∷ 0 ∷ 2 ∷ 9 ∷ []) ∷ (0 ∷ 4 ∷ 9 ∷ []) ∷ (5 ∷ 2 ∷ 9 ∷ []) ∷ []))
    ∷ writing (load (example_file ++ RT (5 ∷ []) ++ RT (2 ∷ [])) 18 2 1) (left (refused (9 ∷ 3 ∷ [])) (nines 18 ∷ nines 2 ∷ nines 1 ∷ []))
    ∷ writing (load (example_file ++ RT (6 ∷ [])) 18 2 2) (left (refused (7 ∷ 7 ∷ [])) (nines 18 ∷ nines 2 ∷ nines 2 ∷ []))
    ∷ []

-- ---- plan and certify: buffers 4, 5, 6 and 8

abbrev plan_left : plans.Outcome → Left
plan_left o = left (planned_as o.answer) (o.producers ∷ o.ranks ∷ o.readers ∷ o.work ∷ [])

-- of the example; of C5
abbrev plan : ℕ → ℕ → ℕ → ℕ → Left
plan b4 b5 b6 b8 = plan_left (plan_outcome (counts 2 6 2 2) example_nodes example_operands example_roots (nines b4) (nines b5) (nines b6) (nines b8))

abbrev plan_cycle : ℕ → ℕ → ℕ → ℕ → Left
plan_cycle b4 b5 b6 b8 = plan_left (plan_outcome (counts 3 6 0 3) five_nodes [] five_roots (nines b4) (nines b5) (nines b6) (nines b8))

abbrev certify : List ℕ → ℕ → ℕ → ℕ → ℕ → Left
certify ranks b4 b5 b6 b8 = plan_left (certify_outcome (counts 2 6 2 2) example_nodes example_operands example_roots ranks (nines b4) (nines b5) (nines b6) (nines b8))

unfoldable pub plannings : List Writing
plannings =
    writing (plan 9 3 35 87) (left (planned 2) ((producers ++ (9 ∷ [])) ∷ (0 ∷ 1 ∷ 9 ∷ []) ∷ (reader_lists ++ nines 14) ∷ zeros 87 ∷ []))
    ∷ writing (certify (0 ∷ 1 ∷ []) 9 3 35 87) (left (planned 2) ((producers ++ (9 ∷ [])) ∷ (0 ∷ 1 ∷ 9 ∷ []) ∷ (reader_lists ++ nines 14) ∷ zeros 87 ∷ []))
    -- short work area
    ∷ writing (plan 8 2 34 85) (left (refused (9 ∷ 8 ∷ [])) (nines 8 ∷ nines 2 ∷ nines 34 ∷ zeros 85 ∷ []))
    -- case C5
    ∷ writing (plan_cycle 12 3 35 88) (left (refused (12 ∷ 0 ∷ [])) (nines 12 ∷ nines 3 ∷ nines 35 ∷ zeros 88 ∷ []))
    -- ranks 0 2 and 0 0
    ∷ writing (certify (0 ∷ 2 ∷ []) 8 2 34 86) (left (refused (13 ∷ 0 ∷ [])) (nines 8 ∷ nines 2 ∷ nines 34 ∷ zeros 86 ∷ []))
    ∷ writing (certify (0 ∷ 0 ∷ []) 8 2 34 86) (left (refused (14 ∷ 1 ∷ [])) (nines 8 ∷ nines 2 ∷ nines 34 ∷ zeros 86 ∷ []))
    ∷ []

-- ---- check: buffer 7

abbrev pub check : Tables → Candidate → List ℕ → Left
check T c kept =
    let o = outcome 64 8 T c kept in
    left (checked_as o.answer) (o.words ∷ [])

unfoldable pub checkings : List Writing
checkings =
    -- fresh, of {} and of {0}; kept, from {} to {0} and back
    writing (check lent.planned (candidate 7 (0 ∷ [])) (zeros 36 ++ (9 ∷ []))) (left (checked stable 6) ((after_none ++ (9 ∷ [])) ∷ []))
    ∷ writing (check lent.planned (candidate 7 (1 ∷ [])) (zeros 36 ++ (9 ∷ []))) (left (checked (not_model 2) 6) ((after_zero ++ (9 ∷ [])) ∷ []))
    ∷ writing (check lent.planned (candidate 7 (1 ∷ [])) (after_none ++ (9 ∷ []))) (left (checked (not_model 2) 4) ((after_zero ++ (9 ∷ [])) ∷ []))
    ∷ writing (check lent.planned (candidate 7 (0 ∷ [])) (after_zero ++ (9 ∷ []))) (left (checked stable 4) ((after_none ++ (9 ∷ [])) ∷ []))
    -- 3, 9, 15 and 16
    ∷ writing (check (tables (counts 2 262145 2 2) 7 2 example_nodes example_operands example_roots producers readers) (candidate 7 (0 ∷ [])) (nines 37)) (left (refused (3 ∷ 1 ∷ [])) (nines 37 ∷ []))
    ∷ writing (check lent.planned (candidate 7 (0 ∷ [])) (nines 35)) (left (refused (9 ∷ 7 ∷ [])) (nines 35 ∷ []))
    ∷ writing (check lent.planned (candidate 8 (0 ∷ [])) (nines 37)) (left (refused (15 ∷ 0 ∷ [])) (nines 37 ∷ []))
    ∷ writing (check lent.planned (candidate 7 (4 ∷ [])) (nines 37)) (left (refused (16 ∷ 2 ∷ [])) (nines 37 ∷ []))
    ∷ []
