-- What the answer of a derivation has to be.
-- Assumes nothing.
use Rattle.std.specs.Prelude.{ℕ, ◌<◌, ◌≤◌, ◌≡◌, true, false, List, length, get_or}
use Rattle.graph.specs.Edge.{Edge}
use Rattle.graph.specs.Removed.{removed}
use Rattle.graph.specs.Accepts.{Accepts}
use Rattle.graph.specs.Derive.{Derived, ranks, cycle}

-- rs are the ranks of the A atoms in the least R that the graph accepts
pub record Least (A : ℕ) (es : List Edge) (rs : List ℕ) : Type 0 where
  pub rank : ℕ → ℕ
  pub accepted : Accepts A rank es
  pub least : (R : ℕ → ℕ) → Accepts A R es → (v : ℕ) → rank v ≤ R v
  pub long : length rs ≡ A
  pub atoms : (a : ℕ) → a < A → get_or rs a 0 ≡ rank a

-- it accepts no R, and a is the lowest atom left over
pub record Stuck (A n : ℕ) (es : List Edge) (a : ℕ) : Type 0 where
  pub atom : a < A
  pub left : removed es n a ≡ false
  pub lower : (u : ℕ) → u < a → removed es n u ≡ true
  pub none : (R : ℕ → ℕ) → Accepts A R es → ⊥

abbrev pub Right : ℕ → ℕ → List Edge → Derived → Type 0
Right A n es (ranks rs) = Least A es rs
Right A n es (cycle a) = Stuck A n es a
