-- The start of the walk where the candidate's words are written first: of an atom only whether it is missing, and its nodes, are left.
-- Assumes nothing.
use Rattle.std.specs.Prelude.{ℕ, ◌+◌, ◌*◌, ◌/◌, ◌%◌, ◌^◌, cond, List, [], ◌∷◌, ltb, set, Option, Some}
use Rattle.formula.specs.Satisfaction.{Interpretation}
use Rattle.theory.specs.declared.Counts.{Counts}
use Rattle.kept.specs.CountedSet.{and_then, with_bit}
use Rattle.kept.specs.Tables.{Tables, atom_nodes_at}
use Rattle.kept.specs.Evaluation.{Evaluation}
use Rattle.kept.specs.Start.{all_entered}
use Rattle.kept_laws.specs.Given.{candidate_at}
use Rattle.retained.specs.Changes.{presence_turned}

-- atom a, which the candidate has as J has it
unfoldable pub atom_moved : Tables → Interpretation → ℕ → Evaluation → Option Evaluation
atom_moved T J a e = and_then (presence_turned T a (J a) e) (λ d. and_then (atom_nodes_at T a) (all_entered T d))

-- one after the other
unfoldable pub all_moved : Tables → Interpretation → List ℕ → Evaluation → Option Evaluation
all_moved T J [] e = Some e
all_moved T J (a ∷ more) e = and_then (atom_moved T J a e) (all_moved T J more)

-- a candidate's words in which these atoms are as J has them
unfoldable pub bits_laid : Interpretation → List ℕ → List ℕ → List ℕ
bits_laid J [] ws = ws
bits_laid J (a ∷ more) ws = bits_laid J more (with_bit ws a (J a))

-- the lent words in which pair j of the candidate is x; behind its last word stands none
unfoldable pub pair_laid : Counts → ℕ → ℕ → List ℕ → List ℕ
pair_laid t j x ws =
    cond (ltb (64 * j + 32) t.atoms)
    (set (set ws (candidate_at t + 2 * j) (x % 2 ^ 32)) (candidate_at t + 2 * j + 1) (x / 2 ^ 32))
    (set ws (candidate_at t + 2 * j) (x % 2 ^ 32))
