-- Positive cycles, and the lowest atom on or behind one.
-- Assumes nothing.
use Rattle.std.specs.Prelude.{ℕ, ◌<◌, List}
use Rattle.graph.specs.Edge.{Edge}
use Rattle.graph.specs.Path.{Path, steps}

-- v lies on or behind a positive cycle: `around` leads from a vertex back to it and has a strict edge, `onward` leads from there into v
pub record Behind (A : ℕ) (es : List Edge) (v : ℕ) : Type 0 where
  pub vertex : ℕ
  pub around : List Edge
  pub closes : Path es vertex vertex around
  pub positive : 0 < steps A around
  pub onward : List Edge
  pub leads : Path es vertex v onward

-- a is the lowest atom that does
pub record LowestBehind (A : ℕ) (es : List Edge) (a : ℕ) : Type 0 where
  pub atom : a < A
  pub behind : Behind A es a
  pub lower : (b : ℕ) → b < a → Behind A es b → ⊥
