-- DEMAND 3: "This holds for every series of checks of any candidates, refused ones included, by one plan that the planner made of one theory .."
-- Assumes nothing.
use Rattle.std.specs.Prelude.{Ok}
use Prim.Native.Nat.{ℕ}
use mathlib.Core.Path.{◌≡◌}
use mathlib.Core.List.{List}
use Rattle.theory.specs.declared.Counts.{Counts}
use Rattle.plan.specs.Outcome.{plan_outcome, certify_outcome}
use Rattle.kept.specs.Tables.{Tables}
use Rattle.kept.specs.Planned.{PlannedTables}
use Rattle.kept.proofs.Series as kept
use Rattle.kept.proofs.PlainWalk.{plain_walk}
use Rattle.kept_laws.proofs.ListedSeries.{zeroed_series_listed}
use Rattle.series.specs.Lent.{lent}
use Rattle.series.proofs.Planned.{plan-planned, certify-planned}
use Rattle.demands.specs.Demand3.{Demand3}

by-planned : (T : Tables) → PlannedTables T → Demand3 T
by-planned T plan =
    record {
      series = λ floor divisor. kept.series floor divisor T plan;
      walk = plain_walk T plan;
      any_past = λ floor divisor. zeroed_series_listed floor divisor T;
    }

module _ (t : Counts) (nodes operands roots ps rs us ws : List ℕ) (p : ℕ) where
  pub demand_3 : (plan_outcome t nodes operands roots ps rs us ws).answer ≡ Ok p → Demand3 (lent t nodes operands roots p (plan_outcome t nodes operands roots ps rs us ws))
  demand_3 e = by-planned _ (plan-planned t nodes operands roots ps rs us ws p e)

  pub certified_demand_3 : (proposed : List ℕ) → (certify_outcome t nodes operands roots proposed ps rs us ws).answer ≡ Ok p
      → Demand3 (lent t nodes operands roots p (certify_outcome t nodes operands roots proposed ps rs us ws))
  certified_demand_3 proposed e = by-planned _ (certify-planned t nodes operands roots ps rs us ws proposed p e)
