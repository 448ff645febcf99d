-- What demand 2 says of `plan`, `certify` and a check on zeroed words.
-- Assumes nothing.
use Rattle.std.specs.Prelude.{ℕ, ◌≡◌, ◌↔◌, List, Ok}
use Rattle.theory.specs.declared.Counts.{Counts}
use Rattle.plan.specs.Outcome as plan
use Rattle.plan.specs.Outcome.{plan_outcome, certify_outcome}
use Rattle.kept.specs.Candidate.{Candidate, atoms_of}
use Rattle.kept.specs.Verdict.{Verdict}
use Rattle.kept.specs.Decides.{DecidesTheory}
use Rattle.kept.specs.Outcome.{accepted}
use Rattle.kept.specs.Series.{zeroed_words, answer_to}
use Rattle.series.specs.Lent.{lent}
use Rattle.series.specs.Ranks.{RootsAdmitted, Answers, Demand2Ranks}

module _ (t : Counts) (nodes operands roots ps rs us ws : List ℕ) where
  -- a check by an accepted plan, on zeroed words, gives the verdict that decides the theory for its candidate
  abbrev pub VerdictDecides : plan.Outcome → Type 0
  VerdictDecides o =
      (p : ℕ) → o.answer ≡ Ok p → (floor divisor : ℕ) (past : List ℕ) (c : Candidate) (v : Verdict) (n : ℕ)
      → answer_to floor divisor (lent t nodes operands roots p o) c (zeroed_words (lent t nodes operands roots p o) past) ≡ accepted v n
      → DecidesTheory t nodes operands roots (atoms_of (lent t nodes operands roots p o) c) v

  pub record Demand2 : Type 0 where
    -- all roots are admitted exactly if `plan` derives ranks or reports a positive cycle
    pub admitted : RootsAdmitted t nodes operands roots ps rs us ws ↔ Answers t nodes operands roots ps rs us ws
    pub ranks : RootsAdmitted t nodes operands roots ps rs us ws → Demand2Ranks t nodes operands roots ps rs us ws
    pub verdict : VerdictDecides (plan_outcome t nodes operands roots ps rs us ws)
    pub certified_verdict : (proposed : List ℕ) → VerdictDecides (certify_outcome t nodes operands roots proposed ps rs us ws)
