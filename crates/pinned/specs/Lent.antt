-- What the worked cases lend: document 01's example, with buffers as long as document 01 lists them for 6 nodes, 2 atoms, 2 operand entries and 2 roots.
-- Assumes nothing.
use Rattle.std.specs.Prelude.{ℕ, ◌+◌, ◌*◌, ◌^◌, List, [], ◌∷◌, ◌++◌}
use Rattle.theory.specs.declared.Counts.{Counts}
use Rattle.kept.specs.Tables.{Tables}
use Rattle.kept.specs.Candidate.{Candidate}
use Rattle.drawings.specs.Tables.{counts, example_nodes, example_operands, example_roots}
use Rattle.pinned.specs.Answer.{Answer, Theory, Room, zeros}

-- a call's answer, and what document 01 says it is
pub record Case : Type 0 where
  pub answer : Answer
  pub expected : Answer

abbrev pub case : Answer → Answer → Case
case answer expected = record { answer = answer; expected = expected }

abbrev pub theory : Counts → List ℕ → List ℕ → List ℕ → Theory
theory counts nodes operands roots = record { counts = counts; nodes = nodes; operands = operands; roots = roots }

abbrev pub room : ℕ → ℕ → ℕ → ℕ → Room
room producers ranks readers work = record { producers = producers; ranks = ranks; readers = readers; work = work }

-- ---- planning the example

abbrev pub example : Theory
example = theory (counts 2 6 2 2) example_nodes example_operands example_roots

-- 4R, A, 2 + A + 4N + O + 2R, 16 + 5(A + N) + 3(O + N + R)
abbrev pub enough : Room
enough = room 8 2 34 86

-- ---- checking it

-- a producer: head, body's node + 1 or 0, root's node, 1 for a choice; a choice of atom 0 by root 5, and atom 1 from node 0 by root 2
unfoldable pub producers : List ℕ
producers = 0 ∷ 0 ∷ 5 ∷ 1 ∷ 1 ∷ 1 ∷ 2 ∷ 0 ∷ []

-- where the lists of 6 nodes and 2 atoms start and the last one ends; node 0 is read by nodes 2, 4, 5 and producer 1 (tag 2), node 1 by node 2, node 2 by root position 1 (tag 3),
-- node 3 by node 4, node 4 by node 5, node 5 by root position 0; atoms 0 and 1 are nodes 0 and 1
unfoldable pub reader_lists : List ℕ
reader_lists =
    10 ∷ 14 ∷ 15 ∷ 16 ∷ 17 ∷ 18 ∷ 19 ∷ 19 ∷ 20 ∷ 21
    ∷ 2 ∷ 4 ∷ 5 ∷ (2 * 2 ^ 62 + 1) ∷ 2 ∷ (3 * 2 ^ 62 + 1) ∷ 4 ∷ 5 ∷ (3 * 2 ^ 62) ∷ 0 ∷ 1 ∷ []

-- 34 words
abbrev pub readers : List ℕ
readers = reader_lists ++ zeros 13

abbrev pub tables : Counts → ℕ → ℕ → List ℕ → List ℕ → List ℕ → List ℕ → List ℕ → Tables
tables t plan made nodes operands roots ps us =
    record { counts = t; plan = plan; made = made; nodes = nodes; operands = operands; roots = roots; producers = ps; readers = us }

abbrev pub planned : Tables
planned = tables (counts 2 6 2 2) 7 2 example_nodes example_operands example_roots producers readers

abbrev pub candidate : ℕ → List ℕ → Candidate
candidate stamp words = record { stamp = stamp; words = words }

-- 36 words of a check of {}, and of {0}: state, stamp, counts of missing atoms, of false roots and of waiting nodes but the first, the first waiting node, the node remembered and the number of the others then;
-- truths; waiting nodes, support (two words), candidate, missing atoms, false roots, groups
unfoldable pub after_none : List ℕ
after_none = (1 ∷ 7 ∷ 0 ∷ 0 ∷ 0 ∷ 6 ∷ 0 ∷ 0 ∷ []) ++ (0 ∷ 0 ∷ 1 ∷ 0 ∷ 1 ∷ 1 ∷ []) ++ (0 ∷ 1 ∷ 0 ∷ 0 ∷ 0 ∷ 0 ∷ 0 ∷ []) ++ zeros 15

unfoldable pub after_zero : List ℕ
after_zero = (1 ∷ 7 ∷ 0 ∷ 1 ∷ 0 ∷ 6 ∷ 0 ∷ 0 ∷ []) ++ (1 ∷ 0 ∷ 0 ∷ 0 ∷ 0 ∷ 1 ∷ []) ++ (0 ∷ 1 ∷ 1 ∷ 1 ∷ 0 ∷ 2 ∷ 0 ∷ []) ++ zeros 15
