-- Kahn's removal with a queue: its state, and one edge gone over.
-- Assumes nothing.
use Rattle.std.specs.Prelude.{ℕ, ◌+◌, ◌-◌, max, cond, List, [], ◌∷◌, ◌++◌, eqb, get_or, set}
use Rattle.graph.specs.Edge.{Edge, cost}

-- for each vertex its edges from vertices not yet gone over, and its rank so far; the vertices whose degree is 0 in the order met
pub record State : Type 0 where
  pub degrees : List ℕ
  pub ranks : List ℕ
  pub queue : List ℕ

-- one edge gone over
unfoldable pub relax : ℕ → Edge → State → State
relax A e s =
    record {
      degrees = set s.degrees e.target (get_or s.degrees e.target 0 - 1);
      ranks = set s.ranks e.target (max (get_or s.ranks e.target 0) (get_or s.ranks e.source 0 + cost A e));
      queue = cond (eqb (get_or s.degrees e.target 0 - 1) 0) (s.queue ++ (e.target ∷ [])) s.queue;
    }

-- the edges from s, in order
unfoldable pub edges_from : ℕ → List Edge → List Edge
edges_from s [] = []
edges_from s (e ∷ es) = cond (eqb e.source s) (e ∷ edges_from s es) (edges_from s es)
