-- What Kahn's removal takes out of a graph, round by round.
-- Assumes nothing.
use Rattle.std.specs.Prelude.{ℕ, zero, suc, ◌+◌, Bool, false, not, ◌&&◌, List, [], ◌∷◌, eqb}
use Rattle.graph.specs.Edge.{Edge, one}

-- the number of edges into v from vertices outside p
unfoldable pub remaining : (ℕ → Bool) → ℕ → List Edge → ℕ
remaining p v [] = 0
remaining p v (e ∷ es) = one (eqb e.target v && not (p e.source)) + remaining p v es

-- v is taken out within k rounds: a vertex goes once none of its predecessors is left over
unfoldable pub removed : List Edge → ℕ → ℕ → Bool
removed es zero v = false
removed es (suc k) v = eqb (remaining (removed es k) v es) 0
