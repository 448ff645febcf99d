-- The verdict on a candidate, and as an evaluation tells it.
-- Assumes nothing.
use Rattle.std.specs.Prelude.{ℕ, Bool, cond, ◌&&◌, eqb, ltb, Option, Some, None}
use Rattle.base.specs.Places.{lowest}
use Rattle.formula.specs.Satisfaction.{Interpretation}
use Rattle.kept.specs.CountedSet.{Lookup, empty, astray, at, lookup}
use Rattle.kept.specs.Tables.{Tables, atom_count, node_count, root_count, root_at}
use Rattle.kept.specs.Evaluation.{Evaluation, truth, support, false_root}

-- not a model, by its first false root; residual, by the lowest of its atoms without producer; stable
pub data Verdict : Type 0 where
  not_model residual : ℕ → Verdict
  stable : Verdict

-- the atom is in the candidate and has no producer, without body or with a true one
unfoldable pub missing_atom : Tables → Interpretation → ℕ → Bool
missing_atom T I a = I a && eqb (support T (truth T I) a) 0

abbrev pub first_false : Tables → Interpretation → ℕ
first_false T I = lowest (false_root T (truth T I)) 0 (root_count T)

abbrev pub first_missing : Tables → Interpretation → ℕ
first_missing T I = lowest (missing_atom T I) 0 (atom_count T)

unfoldable pub verdict : Tables → Interpretation → Verdict
verdict T I =
    cond (ltb (first_false T I) (root_count T)) (not_model (root_at T (first_false T I)))
    (cond (ltb (first_missing T I) (atom_count T)) (residual (first_missing T I)) stable)

-- by the false roots and the missing atoms found; none: a set and its count, or its table, are at odds, or the root named is no node
unfoldable pub judged : Tables → Lookup → Lookup → Option Verdict
judged T (at r) m = cond (ltb (root_at T r) (node_count T)) (Some (not_model (root_at T r))) None
judged T astray m = None
judged T empty (at a) = Some (residual a)
judged T empty astray = None
judged T empty empty = Some stable

unfoldable pub verdict_of : Tables → Evaluation → Option Verdict
verdict_of T e = judged T (lookup (root_count T) 0 e.false_roots) (lookup (atom_count T) 0 e.missing)
