-- The start of the walk: the new candidate with its missing atoms, and the atom nodes of changed atoms on the worklist.
-- Assumes nothing.
use Rattle.std.specs.Prelude.{ℕ, zero, suc, cond, ◌&&◌, List, [], ◌∷◌, eqb, ltb, get_or, Option, Some, None}
use Rattle.formula.specs.Satisfaction.{Interpretation}
use Rattle.words.specs.Changed.{unlike}
use Rattle.kept.specs.CountedSet.{and_then, with_bit, with_member}
use Rattle.kept.specs.Tables.{Tables, atom_count, node_count, atom_nodes_at}
use Rattle.kept.specs.Evaluation.{Evaluation, present}
use Rattle.kept.specs.Parts.{with_candidate}
use Rattle.kept.specs.Step.{entered}

unfoldable pub all_entered : Tables → Evaluation → List ℕ → Option Evaluation
all_entered T e [] = Some e
all_entered T e (k ∷ ks) = and_then (cond (ltb k (node_count T)) (entered T k e) None) (λ d. all_entered T d ks)

-- atom a becomes as the candidate J has it
unfoldable pub atom_turned : Tables → Interpretation → ℕ → Evaluation → Option Evaluation
atom_turned T J a e =
    and_then (with_member (atom_count T) e.missing a (J a && eqb (get_or e.support a 0) 0))
    (λ m. and_then (atom_nodes_at T a) (all_entered T (with_candidate e (with_bit e.candidate a (J a)) m)))

-- if it is not so
unfoldable pub atom_updated : Tables → Interpretation → ℕ → Evaluation → Option Evaluation
atom_updated T J a e = cond (unlike (present e a) (J a)) (atom_turned T J a e) (Some e)

-- the atoms below n
unfoldable pub walk_start : Tables → Interpretation → ℕ → Evaluation → Option Evaluation
walk_start T J zero e = Some e
walk_start T J (suc a) e = and_then (walk_start T J a e) (atom_updated T J a)
