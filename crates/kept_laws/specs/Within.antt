-- Places of a kept evaluation's sections are within its words.
-- Assumes nothing.
use Rattle.std.specs.Prelude.{ℕ, ◌+◌, ◌/◌, ◌<◌, ◌≤◌}
use Rattle.std.proofs.Common.{arith}
use Rattle.theory.specs.Limits.{Limited}
use Rattle.theory.specs.declared.Counts.{Counts}
use Rattle.kept_laws.specs.Given.{candidate_at, missing_at, groups_at, used_by}

module _ (t : Counts) (long : ℕ) (fits : used_by t ≤ long) where
  pub header_within : (i : ℕ) → i < 8 → i < long
  header_within i l = omega arith

  pub candidate_within : (a : ℕ) → a < t.atoms → candidate_at t + a / 32 < long
  candidate_within a l = omega arith

  pub missing_within : (a : ℕ) → a < t.atoms → missing_at t + a / 32 < long
  missing_within a l = omega arith

  pub groups_within : (q : ℕ) → q < t.nodes → groups_at t + q / 32 < long
  groups_within q l = omega arith

module _ (t : Counts) (small : Limited t) where
  pub atoms_small : t.atoms < 4294967296
  atoms_small = omega (arith, small.atoms)

-- a node's word has a number below that of the nodes
pub word_within : (m n : ℕ) → m < n → m / 32 < n
word_within m n l = omega arith
