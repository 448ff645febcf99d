-- The derivation of ranks: those of the atoms, or the lowest atom on or behind a cycle.
-- Assumes nothing.
use Rattle.std.specs.Prelude.{ℕ, cond, not, List, ltb}
use Rattle.base.specs.Places.{lowest}
use Rattle.base.specs.Rising.{rising}
use Rattle.graph.specs.Edge.{Edge}
use Rattle.graph.specs.Removed.{removed}
use Rattle.graph.specs.Depth.{depth}

pub data Derived : Type 0 where
  ranks : List ℕ → Derived
  cycle : ℕ → Derived

-- f at each number below n
abbrev pub table : (ℕ → ℕ) → ℕ → List ℕ
table f n = rising 0 (λ made k. f k) n

-- the lowest atom that n rounds do not take out, A if there is none
abbrev pub lowest_left : ℕ → ℕ → List Edge → ℕ
lowest_left A n es = lowest (λ v. not (removed es n v)) 0 A

unfoldable pub derive : ℕ → ℕ → List Edge → Derived
derive A n es = cond (ltb (lowest_left A n es) A) (cycle (lowest_left A n es)) (ranks (table (depth A es n) A))
