-- Paths in a graph, and how many strict edges they have.
-- Assumes nothing.
use Rattle.std.specs.Prelude.{ℕ, ◌+◌, ◌≡◌}
use mathlib.Core.List.{List, [], ◌∷◌, Memᴰ}
use Rattle.graph.specs.Edge.{Edge, cost}

-- a path from u into v is the list of its edges, the last first
abbrev pub Path : List Edge → ℕ → ℕ → List Edge → Type 0
Path es u v [] = u ≡ v
Path es u v (e ∷ p) = Memᴰ e es × (e.target ≡ v) × Path es u e.source p

-- the number of its strict edges, those into atoms
unfoldable pub steps : ℕ → List Edge → ℕ
steps A [] = 0
steps A (e ∷ p) = steps A p + cost A e
