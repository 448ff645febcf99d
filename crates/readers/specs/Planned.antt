-- Lent tables of a theory in the form of document 01, with p producers whose bodies are nodes, all within the limits.
-- Assumes nothing.
use Rattle.std.specs.Prelude.{ℕ, ◌+◌, ◌*◌, ◌<◌, ◌≤◌, List, length, get_or}
use Rattle.theory.specs.WellFormed.{NodeTables}
use Rattle.theory.specs.Limits.{Limited}
use Rattle.theory.specs.declared.Counts.{Counts}

pub record Planned (t : Counts) (nodes operands roots producers : List ℕ) (p : ℕ) : Type 0 where
  pub limited : Limited t
  pub tables : NodeTables t nodes operands
  pub roots_long : t.roots ≤ length roots
  pub root : (i : ℕ) → i < t.roots → get_or roots i 0 < t.nodes
  pub producers_long : 4 * p ≤ length producers
  pub few : p ≤ t.roots
  pub body : (i : ℕ) → i < p → get_or producers (4 * i + 1) 0 ≤ t.nodes
