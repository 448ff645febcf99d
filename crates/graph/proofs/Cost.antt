-- What an edge costs.
-- Assumes nothing.
use Prim.Native.Nat.{ℕ, ◌≤◌, ◌<◌}
use native.Mathlib.Omega.{arith}
use mathlib.Core.Path.{◌≡◌, ap}
use mathlib.Core.Logic.{⊎_elim}
use borrow.Author.Tests.{lt-ltb, le-ltb}
use Rattle.base.specs.Tests.{below_or}
use Rattle.graph.specs.Edge.{Edge, one, cost}

module _ (A : ℕ) (e : Edge) where
  pub cost_strict : e.target < A → cost A e ≡ 1
  cost_strict l = ap one (lt-ltb e.target A l)

  pub cost-plain : A ≤ e.target → cost A e ≡ 0
  cost-plain l = ap one (le-ltb e.target A l)

  pub cost-most : cost A e ≤ 1
  cost-most = ⊎_elim (λ l. omega (arith, cost_strict l)) (λ l. omega (arith, cost-plain l)) (below_or e.target A)
