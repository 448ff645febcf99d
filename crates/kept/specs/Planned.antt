-- Tables and a plan as the planner makes them of one theory.
-- Assumes nothing.
use Rattle.std.specs.Prelude.{ℕ, ◌*◌, ◌<◌, ◌≡◌, List, length, take, Some}
use Rattle.formula.specs.Plan.{Planned}
use Rattle.theory.specs.Limits.{Limited}
use Rattle.theory.specs.WellFormed.{NodeTables, RootTable}
use Rattle.compile.specs.ClassWord.{class_words}
use Rattle.compile.specs.Producers.{roots_supported, producers, producer_words}
use Rattle.compile.specs.Roots.{roots_of}
use Rattle.compile.specs.declared.Producer.{Producer}
use Rattle.kept.specs.Tables.{Tables, atom_count, node_count, root_count, readers_at, atom_nodes_at}
use Rattle.kept.specs.Consistent.{readers_in, atom_nodes_in}
use Rattle.theory.specs.Admission.{admitted}

abbrev pub classes_in : Tables → List ℕ
classes_in T = class_words T.nodes T.operands (node_count T)

-- the producers of the roots, in order
abbrev pub producers_in : Tables → List Producer
producers_in T = producers T.nodes T.operands (classes_in T) (take (root_count T) T.roots)

pub record PlannedTables (T : Tables) : Type 0 where
  pub limited : Limited T.counts
  pub node_tables : NodeTables T.counts T.nodes T.operands
  pub root_table : RootTable T.counts T.roots
  pub supported : roots_supported T.counts T.nodes T.operands (classes_in T) T.roots ≡ admitted
  pub made : T.made ≡ length (producers_in T)
  pub producer_words_lem : take (4 * T.made) T.producers ≡ producer_words (producers_in T)
  pub readers : (k : ℕ) → k < node_count T → readers_at T k ≡ Some (readers_in T k)
  pub atom_nodes : (a : ℕ) → a < atom_count T → atom_nodes_at T a ≡ Some (atom_nodes_in T a)
  pub ranks : ℕ → ℕ
  pub ranked : Planned ranks (roots_of T.counts T.nodes T.operands T.roots)
  pub stamp : T.plan ≡ T.counts.stamp
