-- What the plan asks of roots under the ranks r.
-- Assumes nothing.
use Rattle.std.specs.Prelude.{ℕ, ◌<◌, ◌≡◌, ◌≢◌, List, [], ◌∷◌}
use Rattle.formula.specs.Formula.{Formula}
use Rattle.formula.specs.Class.{positive, opaque, class}
use Rattle.formula.specs.Rank.{highest}
use Rattle.formula.specs.Head.{Head, head_atom}
use Rattle.formula.specs.Root.{Root, constraint, denial, fact, rule}

-- of a rule: no Opaque body; a Positive body's highest rank below the head's
pub record PlannedRule (r : ℕ → ℕ) (b : Formula) (h : Head) : Type 0 where
  pub clear : class b ≢ opaque
  pub lower : class b ≡ positive → highest r b < r (head_atom h)

abbrev pub PlannedRoot : (ℕ → ℕ) → Root → Type 0
PlannedRoot r constraint = Unit {0}
PlannedRoot r (denial b) = Unit {0}
PlannedRoot r (fact h) = Unit {0}
PlannedRoot r (rule b h) = PlannedRule r b h

abbrev pub Planned : (ℕ → ℕ) → List Root → Type 0
Planned r [] = Unit {0}
Planned r (x ∷ xs) = PlannedRoot r x × Planned r xs
