-- Each source that is no atom has an edge into it.
-- Assumes nothing.
use Rattle.std.specs.Prelude.{ℕ, ◌≤◌, ◌≡◌}
use mathlib.Core.List.{List, Memᴰ}
use Rattle.base.specs.Each.{Each}
use Rattle.graph.specs.Edge.{Edge}

abbrev pub Grounded : ℕ → List Edge → Type 0
Grounded A es = Each (λ e. A ≤ e.source → (d : Edge) × Memᴰ d es × (d.target ≡ e.source)) es
