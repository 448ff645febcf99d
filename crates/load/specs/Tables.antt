-- The lent tables: buffers 1 (nodes), 2 (operands) and 3 (roots).
-- Assumes nothing.
use Rattle.std.specs.Prelude.{List, ◌++◌, ℕ, length, drop}
use Rattle.record.specs.Contents.{Contents}

pub record Tables : Type 0 where
  pub nodes : List ℕ
  pub operands : List ℕ
  pub roots : List ℕ

abbrev pub tables : List ℕ → List ℕ → List ℕ → Tables
tables ns os rs = record { nodes = ns; operands = os; roots = rs }

-- ys with xs at its front
unfoldable pub over : List ℕ → List ℕ → List ℕ
over xs ys = xs ++ drop (length xs) ys

-- the tables with the contents of a file at their front
abbrev pub holding : Contents → Tables → Tables
holding t b = record { nodes = over t.nodes b.nodes; operands = over t.operands b.operands; roots = over t.roots b.roots }
