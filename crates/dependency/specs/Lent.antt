-- The lent tables of a theory within the limits, with the class words of its nodes.
-- Assumes nothing.
use Rattle.std.specs.Prelude.{ℕ, ◌≤◌, List, length}
use Rattle.theory.specs.Limits.{Limited}
use Rattle.theory.specs.WellFormed.{NodeTables, RootTable}
use Rattle.theory.specs.declared.Counts.{Counts}

pub record Lent (t : Counts) (nodes operands roots classes : List ℕ) : Type 0 where
  pub limited : Limited t
  pub tables : NodeTables t nodes operands
  pub listed : RootTable t roots
  pub classes_long : t.nodes ≤ length classes
