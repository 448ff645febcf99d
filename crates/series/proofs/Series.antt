-- Demand 3 of the public calls: any series of checks on what `plan` or `certify` accepted.
-- Assumes nothing.
use Rattle.std.specs.Prelude.{Ok}
use Prim.Native.Nat.{ℕ}
use mathlib.Core.Path.{◌≡◌}
use mathlib.Core.List.{List}
use Rattle.theory.specs.declared.Counts.{Counts}
use Rattle.plan.specs.Outcome.{plan_outcome, certify_outcome}
use Rattle.kept.specs.Candidate.{Candidate}
use Rattle.kept.specs.Series.{Demand3}
use Rattle.kept.proofs.Series as kept
use Rattle.series.specs.Lent.{lent}
use Rattle.series.proofs.Planned.{plan-planned, certify-planned}

module _ (floor divisor : ℕ) (t : Counts) (nodes operands roots ps rs us ws : List ℕ) (p : ℕ) where
  pub series : (plan_outcome t nodes operands roots ps rs us ws).answer ≡ Ok p
      → (past : List ℕ) (cs : List Candidate) → Demand3 floor divisor (lent t nodes operands roots p (plan_outcome t nodes operands roots ps rs us ws)) past cs
  series e = kept.series floor divisor _ (plan-planned t nodes operands roots ps rs us ws p e)

  pub certified_series : (proposed : List ℕ) → (certify_outcome t nodes operands roots proposed ps rs us ws).answer ≡ Ok p
      → (past : List ℕ) (cs : List Candidate) → Demand3 floor divisor (lent t nodes operands roots p (certify_outcome t nodes operands roots proposed ps rs us ws)) past cs
  certified_series proposed e = kept.series floor divisor _ (certify-planned t nodes operands roots ps rs us ws proposed p e)
