-- The most strict edges on a path into a vertex.
-- Assumes nothing.
use Rattle.std.specs.Prelude.{ℕ, zero, suc, ◌+◌, max, Bool, true, cond, ◌&&◌, List, [], ◌∷◌, eqb}
use Rattle.graph.specs.Edge.{Edge, cost}

-- the highest f of the source and cost together, over the edges into v from vertices of p
unfoldable pub peak : ℕ → (ℕ → Bool) → (ℕ → ℕ) → ℕ → List Edge → ℕ
peak A p f v [] = 0
peak A p f v (e ∷ es) = max (cond (eqb e.target v && p e.source) (f e.source + cost A e) 0) (peak A p f v es)

abbrev pub every : ℕ → Bool
every v = true

-- on a path of at most k edges (proofs/Paths)
unfoldable pub depth : ℕ → List Edge → ℕ → ℕ → ℕ
depth A es zero v = 0
depth A es (suc k) v = peak A every (depth A es k) v es
