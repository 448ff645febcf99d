-- The test for a supported model, computed over the atoms below A.
-- Assumes nothing.
use Rattle.std.specs.Prelude.{ℕ, zero, suc, ◌<◌, ◌≡◌, Bool, true, not, ◌&&◌, ◌||◌, List}
use Rattle.formula.specs.Satisfaction.{Interpretation, all}
use Rattle.formula.specs.Root.{Root, theory}
use Rattle.formula.specs.Support.{supported}

-- the atoms of I are below A
abbrev pub Within : ℕ → Interpretation → Type 0
Within A I = (a : ℕ) → I a ≡ true → a < A

-- every number below n passes p
unfoldable pub below : ℕ → (ℕ → Bool) → Bool
below zero p = true
below (suc n) p = p n && below n p

unfoldable pub passes : ℕ → Interpretation → List Root → Bool
passes A I xs = all I (theory xs) && below A (λ a. not (I a) || supported I a xs)
