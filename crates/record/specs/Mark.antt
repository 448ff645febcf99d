-- The marks: two bytes in ASCII with which every record begins.
-- Assumes nothing.
use Rattle.std.specs.Prelude.{ℕ, ◌+◌, Bool, false, cond, not, ◌&&◌, ◌||◌, List, [], ◌∷◌, eqb, get_or}
use Rattle.record.specs.declared.Mark.{Mark}
use Rattle.record.specs.Stage.{at_start, at_nodes, at_roots}
use Rattle.record.specs.declared.Stage.{Stage}
use Rattle.record.specs.declared.Mark.TheVariants.{Theory, Atom, False, Implies, And, Or, Root, Candidate, Unknown}

unfoldable pub is_mark : List ℕ → ℕ → List ℕ → Bool
is_mark file at mark = eqb (get_or file at 0) (get_or mark 0 0) && eqb (get_or file (at + 1) 0) (get_or mark 1 0)

-- NA, NF, NI, NC, ND
unfoldable pub node_mark_at : List ℕ → ℕ → Mark
node_mark_at file at =
    cond (is_mark file at (78 ∷ 65 ∷ [])) Atom
    (cond (is_mark file at (78 ∷ 70 ∷ [])) False
    (cond (is_mark file at (78 ∷ 73 ∷ [])) Implies
    (cond (is_mark file at (78 ∷ 67 ∷ [])) And
    (cond (is_mark file at (78 ∷ 68 ∷ [])) Or Unknown))))

-- TH, RT, CA
unfoldable pub mark_at : List ℕ → ℕ → Mark
mark_at file at =
    cond (is_mark file at (84 ∷ 72 ∷ [])) Theory
    (cond (is_mark file at (82 ∷ 84 ∷ [])) Root
    (cond (is_mark file at (67 ∷ 65 ∷ [])) Candidate (node_mark_at file at)))

-- a mark out of order is refused
abbrev pub in_order : Mark → Stage → Bool
in_order Theory stage = at_start stage
in_order Atom stage = at_nodes stage
in_order False stage = at_nodes stage
in_order Implies stage = at_nodes stage
in_order And stage = at_nodes stage
in_order Or stage = at_nodes stage
in_order Root stage = at_nodes stage || at_roots stage
in_order Candidate stage = not (at_start stage)
in_order Unknown stage = false
