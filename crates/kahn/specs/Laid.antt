-- Edges laid in the work area, in order: the edges of a vertex are linked, the last first. A link is an edge's number and one; 0 ends.
-- Assumes nothing.
use Rattle.std.specs.Prelude.{ℕ, suc, ◌+◌, ◌*◌, ◌<◌, ◌≤◌, ◌≡◌, List, [], ◌∷◌, ◌++◌, length, get_or, set}
use Rattle.base.specs.Each.{Each}
use Rattle.graph.specs.Edge.{Edge, edge}
use Rattle.graph.specs.Removed.{remaining}
use Rattle.graph.specs.Removal.{edges_from}
use Rattle.graph.specs.Removing.{none}

-- edge number i from s to t laid
unfoldable pub laying : ℕ → ℕ → ℕ → ℕ → ℕ → List ℕ → List ℕ
laying n m i s t area =
    set (set (set (set area (4 * n + i) t) (4 * n + m + i) (get_or area s 0)) s (i + 1)) (n + t) (get_or area (n + t) 0 + 1)

-- the edges of s reached from a link
pub data Chain (n m : ℕ) (area : List ℕ) (s : ℕ) : ℕ → List Edge → Type 0 where
  stop : Chain n m area s 0 []
  link : (i t next : ℕ) {zs : List Edge} → i < m → t < n → next ≤ i → get_or area (4 * n + i) 0 ≡ t → get_or area (4 * n + m + i) 0 ≡ next
      → Chain n m area s next zs → Chain n m area s (suc i) (zs ++ (edge s t ∷ []))

abbrev pub Chains : ℕ → ℕ → List Edge → List ℕ → Type 0
Chains n m es area = (s : ℕ) → s < n → Chain n m area s (get_or area s 0) (edges_from s es)

-- the area holds the edges es, how many each vertex has, and ranks of 0
pub record Laid (n m : ℕ) (es : List Edge) (area : List ℕ) : Type 0 where
  pub few : length es ≤ m
  pub within : Each (λ e. e.source < n) es
  pub low : (s : ℕ) → s < n → get_or area s 0 ≤ length es
  pub chains : Chains n m es area
  pub degrees : (v : ℕ) → v < n → get_or area (n + v) 0 ≡ remaining none v es
  pub ranks : (v : ℕ) → v < n → get_or area (2 * n + v) 0 ≡ 0
