-- Where `plan` derives ranks or reports a positive cycle, all roots are admitted: no refusal before that is 12.
-- Assumes nothing.
use Rattle.std.specs.Prelude.{Ok, Err}
use Prim.Native.Nat.{ℕ, ◌*◌}
use native.Mathlib.Omega.{arith}
use mathlib.Core.Path.{◌≡◌, refl, ◌∙◌}
use mathlib.Core.Logic.{inl, inr}
use mathlib.Core.List.{List}
use lib.Dec.{ltb}
use Rattle.theory.specs.Refusal.{told}
use Rattle.theory.specs.Refusals.{or_else_left}
use Rattle.theory.specs.Admission.{or_else, admission, Admission, admitted}
use Rattle.theory.specs.Limits.{limits_of}
use Rattle.theory.specs.Only.{UpTo, only_admitted, only-or_else, up_to_test, limits_up_to, tables_up_to}
use Rattle.theory.specs.declared.Counts.{Counts}
use Rattle.theory.specs.declared.Refusal.TheVariants.{ShortBuffer, PositiveCycle}
use Rattle.compile.proofs.Unsupported.{supported-only}
use Rattle.plan.specs.Buffers.{readers_length, work_length, short_buffer}
use Rattle.plan.specs.Judged.{classes, judged, plan_judged}
use Rattle.plan.specs.Outcome.{lengths, planned, plan_outcome}
use Rattle.plan.specs.declared.Lengths.{Lengths}
use Rattle.series.specs.Ranks.{RootsAdmitted, Answers}
use Rattle.series.proofs.Planned.{answered}

short_up_to : (t : Counts) (l : Lengths) → UpTo 11 (short_buffer t l)
unfolding short_buffer told
short_up_to t l =
    up_to_test 11 (ltb l.nodes (3 * t.nodes)) (ShortBuffer 1) _ (omega arith)
    (up_to_test 11 (ltb l.operands t.operands) (ShortBuffer 2) _ (omega arith)
    (up_to_test 11 (ltb l.roots t.roots) (ShortBuffer 3) _ (omega arith)
    (up_to_test 11 (ltb l.producers (4 * t.roots)) (ShortBuffer 4) _ (omega arith)
    (up_to_test 11 (ltb l.ranks t.atoms) (ShortBuffer 5) _ (omega arith)
    (up_to_test 11 (ltb l.readers (readers_length t)) (ShortBuffer 6) _ (omega arith)
    (up_to_test 11 (ltb l.work (work_length t)) (ShortBuffer 8) admitted (omega arith) (only_admitted _)))))))

module _ (t : Counts) (nodes operands roots : List ℕ) where
  -- 1 to 11
  judged_up_to : (l : Lengths) → UpTo 11 (judged t nodes operands roots l)
  unfolding judged told
  judged_up_to l =
      only-or_else _ (limits_of t) _ (limits_up_to 11 t (omega arith))
      (only-or_else _ (short_buffer t l) _ (short_up_to t l)
      (only-or_else _ (admission t nodes operands roots) _ (tables_up_to 11 (omega arith) t nodes operands roots)
      (supported-only _ (λ k. omega arith) (λ k b. omega arith) nodes operands (classes t nodes operands roots) t roots)))

  module _ (ps rs us ws : List ℕ) where
    abbrev lengths_of : Lengths
    lengths_of = lengths t nodes operands roots ps rs us ws

    -- 12 comes after them
    before_cycle : (a : ℕ) (j rest : Admission) → judged t nodes operands roots lengths_of ≡ j → or_else j rest ≡ Err (PositiveCycle a) → j ≡ admitted
    unfolding told
    before_cycle a (Ok u) rest q e = refl
    before_cycle a (Err r) rest q e = absurd (omega (arith, judged_up_to lengths_of (PositiveCycle a) (q ∙ e)))

    cycle_judged : (a : ℕ) (j : Admission) (ranked : List ℕ) → (planned t nodes operands roots ps rs us ws j ranked).answer ≡ Err (PositiveCycle a) → j ≡ Err (PositiveCycle a)
    unfolding planned
    cycle_judged a (Ok u) ranked e = let z : ◌≡◌ {A = ℕ} 0 1 = cc in absurd (omega arith)
    cycle_judged a (Err r) ranked e = cc

    pub answers_admitted : Answers t nodes operands roots ps rs us ws → RootsAdmitted t nodes operands roots ps rs us ws
    unfolding plan_outcome plan_judged
    answers_admitted (inl w) = or_else_left (judged t nodes operands roots lengths_of) _ (answered t nodes operands roots ps rs us ws w.0 _ _ w.1).0
    answers_admitted (inr w) = before_cycle w.0 (judged t nodes operands roots lengths_of) _ refl (cycle_judged w.0 _ _ w.1)
