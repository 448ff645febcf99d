-- Ranks that a graph accepts: no edge falls, and a strict edge rises.
-- Assumes nothing.
use Rattle.std.specs.Prelude.{ℕ, ◌+◌, ◌≤◌, List}
use Rattle.base.specs.Each.{Each}
use Rattle.graph.specs.Edge.{Edge, cost}

abbrev pub Accepts : ℕ → (ℕ → ℕ) → List Edge → Type 0
Accepts A R es = Each (λ e. R e.source + cost A e ≤ R e.target) es
