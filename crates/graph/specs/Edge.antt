-- An edge of a graph whose vertices are numbers; the first A of them are atoms.
-- Assumes nothing.
use Rattle.std.specs.Prelude.{ℕ, ◌<◌, ◌≤◌, Bool, true, false, ltb}

pub record Edge : Type 0 where
  pub source : ℕ
  pub target : ℕ

abbrev pub edge : ℕ → ℕ → Edge
edge s t = record { source = s; target = t }

abbrev pub one : Bool → ℕ
one true = 1
one false = 0

-- an edge is strict, and costs 1, exactly if its target is an atom
abbrev pub cost : ℕ → Edge → ℕ
cost A e = one (ltb e.target A)

-- it is between vertices below n, and rises where it is not strict
pub record Rises (A n : ℕ) (e : Edge) : Type 0 where
  pub source_in : e.source < n
  pub target_in : e.target < n
  pub up : A ≤ e.target → e.source < e.target
