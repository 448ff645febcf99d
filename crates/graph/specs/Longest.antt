-- The most strict edges on any path into a vertex, said by paths.
-- Assumes nothing.
use Rattle.std.specs.Prelude.{ℕ, ◌≤◌, ◌≡◌, List}
use Rattle.graph.specs.Edge.{Edge}
use Rattle.graph.specs.Path.{Path, steps}

-- some path into v has r of them, and none has more
pub record Longest (A : ℕ) (es : List Edge) (v r : ℕ) : Type 0 where
  pub start : ℕ
  pub path : List Edge
  pub leads : Path es start v path
  pub reached : steps A path ≡ r
  pub most : (u : ℕ) (p : List Edge) → Path es u v p → steps A p ≤ r
