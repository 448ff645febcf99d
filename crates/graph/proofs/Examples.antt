-- Small graphs, derived.
-- Assumes nothing.
use mathlib.Core.Path.{◌≡◌, refl}
use mathlib.Core.List.{[], ◌∷◌}
use Rattle.base.specs.Places.{places, lowest}
use Rattle.base.specs.Rising.{rising, extended}
use Rattle.graph.specs.Edge.{edge}
use Rattle.graph.specs.Removed.{remaining, removed}
use Rattle.graph.specs.Depth.{peak, depth}
use Rattle.graph.specs.Derive.{ranks, cycle, derive}

-- no edge
lone : derive 2 2 [] ≡ ranks (0 ∷ 0 ∷ [])
unfolding derive lowest places rising extended removed remaining depth peak
lone = refl

-- atom 0, then node 2, then atom 1
chain : derive 2 3 (edge 0 2 ∷ edge 2 1 ∷ []) ≡ ranks (0 ∷ 1 ∷ [])
unfolding derive lowest places rising extended removed remaining depth peak
chain = refl

-- the longer way counts, whichever edge comes first
longer : derive 3 5 (edge 4 2 ∷ edge 3 1 ∷ edge 0 3 ∷ edge 0 4 ∷ edge 1 4 ∷ []) ≡ ranks (0 ∷ 1 ∷ 2 ∷ [])
unfolding derive lowest places rising extended removed remaining depth peak
longer = refl

-- atom 1 stands on a cycle, atom 2 behind it
behind : derive 3 4 (edge 1 3 ∷ edge 3 1 ∷ edge 3 2 ∷ []) ≡ cycle 1
unfolding derive lowest places rising extended removed remaining depth peak
behind = refl

-- atom 0 stands behind the cycle of atom 1 and not on it, and is the lowest that does
ahead : derive 2 3 (edge 1 2 ∷ edge 2 1 ∷ edge 2 0 ∷ []) ≡ cycle 0
unfolding derive lowest places rising extended removed remaining depth peak
ahead = refl

-- a source that is no atom and has no edge into it: the rank is not below the number of atoms
groundless : derive 1 2 (edge 1 0 ∷ []) ≡ ranks (1 ∷ [])
unfolding derive lowest places rising extended removed remaining depth peak
groundless = refl
