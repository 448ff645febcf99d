-- What holds of the work area between two vertices taken off the queue.
-- Assumes nothing.
use Rattle.std.specs.Prelude.{ℕ, ◌≤◌, List, []}
use Rattle.graph.specs.Edge.{Edge}
use Rattle.graph.specs.Removing.{Removing}
use Rattle.kahn.specs.Area.{state_in}
use Rattle.kahn.specs.Laid.{Chains}

-- c of the q queued vertices are taken out
pub record Draining (A : ℕ) (es : List Edge) (n m c q : ℕ) (area : List ℕ) : Type 0 where
  pub fits : q ≤ n
  pub chains : Chains n m es area
  pub removing : Removing A es n c [] (state_in n q area)
