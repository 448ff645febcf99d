-- The walk of a kept check: steps from its start until the worklist is empty.
-- Assumes nothing.
use Rattle.std.specs.Prelude.{ℕ, zero, suc, ◌*◌, cond, List, [], ◌∷◌, ltb, length, Option, Some, None}
use Rattle.formula.specs.Satisfaction.{Interpretation}
use Rattle.words.specs.Next.{next}
use Rattle.kept.specs.Tables.{Tables, atom_count, node_count}
use Rattle.kept.specs.Evaluation.{Evaluation}
use Rattle.kept.specs.Step.{Stepped, idle, took, fault, step}
use Rattle.kept.specs.Start.{walk_start}

-- the nodes gone over, in order, and the evaluation then; or 17, at a place
pub data Walked : Type 0 where
  ended : List ℕ → Evaluation → Walked
  broken : ℕ → Walked

abbrev pub after : ℕ → Walked → Walked
after k (ended ks e) = ended (k ∷ ks) e
after k (broken j) = broken j

abbrev pub onward : Evaluation → (Evaluation → Walked) → Stepped → Walked
onward e f idle = ended [] e
onward e f (took k d) = after k (f d)
onward e f (fault k) = broken k

-- at most so many steps; nodes are taken rising, so that one more than there are nodes is enough (WalkEnds)
unfoldable pub walk : Tables → ℕ → Evaluation → Walked
walk T zero e = ended [] e
walk T (suc n) e = onward e (walk T n) (step T e)

abbrev pub walk_from : Tables → Option Evaluation → Walked
walk_from T None = broken 0
walk_from T (Some e) = walk T (suc (node_count T)) e

-- a kept candidate with a member that is no atom is 17, place 0
unfoldable pub kept_walk : Tables → Interpretation → Evaluation → Walked
kept_walk T J e =
    cond (ltb (next 32 e.candidate (atom_count T)) (32 * length e.candidate)) (broken 0) (walk_from T (walk_start T J (atom_count T) e))
