-- A plan that is refused although its buffers suffice and its tables are admitted is refused 10, 11 or 12.
-- Assumes nothing.
use Rattle.std.specs.Prelude.{Ok, Err}
use Prim.Native.Nat.{ℕ}
use native.Mathlib.Omega.{arith}
use mathlib.Core.Path.{◌≡◌, refl, ap, ◌∙◌}
use mathlib.Core.Logic.{inl, inr}
use mathlib.Core.List.{List}
use Rattle.graph.specs.Derive.{Derived, ranks, cycle}
use Rattle.theory.specs.Admission.{admission, Admission, admitted}
use Rattle.theory.specs.Limits.{limits_of}
use Rattle.theory.specs.Only.{Only, only_admitted, only_refused, only-or_else}
use Rattle.theory.specs.declared.Counts.{Counts}
use Rattle.theory.specs.declared.Refusal.{Refusal}
use Rattle.theory.specs.declared.Refusal.TheVariants.{PositiveCycle}
use Rattle.compile.specs.Producers.{roots_supported}
use Rattle.compile.proofs.Unsupported.{supported-only}
use Rattle.plan.specs.Buffers.{short_buffer}
use Rattle.plan.specs.Judged.{classes, judged, derived, acyclic, plan_judged}
use Rattle.plan.specs.Outcome.{lengths, planned, plan_outcome, ranks_of}
use Rattle.demands.specs.Told.{Unplannable}

module _ (t : Counts) (nodes operands roots : List ℕ) where
  -- 12
  acyclic_only : (d : Derived) → Only Unplannable (acyclic t nodes operands roots d)
  acyclic_only (ranks found) = only_admitted Unplannable
  acyclic_only (cycle a) = only_refused Unplannable (PositiveCycle a) (inr (inr (a, refl)))

  module _ (ps rs us ws : List ℕ) (within : limits_of t ≡ admitted) (long : short_buffer t (lengths t nodes operands roots ps rs us ws) ≡ admitted) (formed : admission t nodes operands roots ≡ admitted) where
    -- 10 and 11, then 12
    judged-only : Only Unplannable (plan_judged t nodes operands roots (lengths t nodes operands roots ps rs us ws))
    unfolding plan_judged judged
    judged-only =
        rw (within, long, formed)
        (only-or_else Unplannable (roots_supported t nodes operands (classes t nodes operands roots) roots) _
        (supported-only Unplannable (λ k. inl (k, refl)) (λ k b. inr (inl (k, b, refl))) nodes operands (classes t nodes operands roots) t roots)
        (acyclic_only (derived t nodes operands roots)))

    pub unplannable : (r : Refusal) → (plan_outcome t nodes operands roots ps rs us ws).answer ≡ Err r → Unplannable r
    unfolding plan_outcome planned
    unplannable r e = go (plan_judged t nodes operands roots (lengths t nodes operands roots ps rs us ws)) refl e
      where
        go : (a : Admission) → plan_judged t nodes operands roots (lengths t nodes operands roots ps rs us ws) ≡ a
            → (planned t nodes operands roots ps rs us ws a (ranks_of t nodes operands roots (derived t nodes operands roots))).answer ≡ Err r → Unplannable r
        go (Ok u) p q = let z : ◌≡◌ {A = ℕ} 0 1 = cc in absurd (omega arith)
        go (Err x) p q = let y : x ≡ r = cc in judged-only r (p ∙ ap Err y)
