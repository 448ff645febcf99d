-- Demand 2 of the public calls, on ranks: what `plan` derives, and what `certify` accepts on the same buffers.
-- Assumes nothing.
use Rattle.std.specs.Prelude.{ℕ, ◌+◌, ◌<◌, ◌≤◌, ◌≡◌, ◌⊎◌, ◌↔◌, List, get_or, take, Ok, Err}
use Rattle.graph.specs.Edge.{Edge}
use Rattle.graph.specs.Longest.{Longest}
use Rattle.graph.specs.Cycle.{LowestBehind}
use Rattle.graph.specs.Right.{Stuck}
use Rattle.theory.specs.declared.Counts.{Counts}
use Rattle.theory.specs.declared.Refusal.TheVariants.{PositiveCycle}
use Rattle.ranks.specs.Dependency.{dependencies}
use Rattle.plan.specs.Judged.{classes, judged}
use Rattle.plan.specs.Outcome.{Outcome, lengths, plan_outcome, certify_outcome}
use Rattle.theory.specs.Admission.{admitted}

module _ (t : Counts) (nodes operands roots ps rs us ws : List ℕ) where
  -- all roots are admitted: none of the refusals 1 to 11
  abbrev pub RootsAdmitted : Type 0
  RootsAdmitted = judged t nodes operands roots (lengths t nodes operands roots ps rs us ws) ≡ admitted

  -- the outcome of `plan`, and the rank that it wrote for an atom
  abbrev pub plan_made : Outcome
  plan_made = plan_outcome t nodes operands roots ps rs us ws

  abbrev pub rank_of : ℕ → ℕ
  rank_of a = get_or plan_made.ranks a 0

  -- `plan` derives ranks
  abbrev pub Derives : Type 0
  Derives = (p : ℕ) × (plan_made.answer ≡ Ok p)

  -- `plan` reports a positive cycle and names the atom a
  abbrev pub Reports : ℕ → Type 0
  Reports a = plan_made.answer ≡ Err (PositiveCycle a)

  -- `plan` does one of the two
  abbrev pub Answers : Type 0
  Answers = Derives ⊎ ((a : ℕ) × Reports a)

  -- the outcome of `certify` on proposed ranks
  abbrev pub certify_made : List ℕ → Outcome
  certify_made proposed = certify_outcome t nodes operands roots proposed ps rs us ws

  -- `certify` accepts them
  abbrev pub Certifies : List ℕ → Type 0
  Certifies proposed = (p : ℕ) × ((certify_made proposed).answer ≡ Ok p)

  -- the theory's dependencies; a strict edge, into an atom, is a producer step
  abbrev pub edges : List Edge
  edges = dependencies t nodes operands (classes t nodes operands roots) roots

  pub record Demand2Ranks : Type 0 where
    -- derived ranks are accepted: `certify` on them leaves what `plan` left
    pub accepted : Derives → certify_made (take t.atoms plan_made.ranks) ≡ plan_made
    -- derived ranks are the least that `certify` accepts
    pub least : Derives → (proposed : List ℕ) → Certifies proposed → (a : ℕ) → a < t.atoms → rank_of a ≤ get_or proposed a 0
    -- an atom's derived rank is the most producer steps on a path into it
    pub longest : Derives → (a : ℕ) → a < t.atoms → Longest t.atoms edges a (rank_of a)
    -- a positive cycle is reported exactly if `certify` accepts no ranks
    pub cycle_exactly : ((a : ℕ) × Reports a) ↔ ((proposed : List ℕ) → Certifies proposed → ⊥)
    -- the atom named is the lowest on or behind a positive cycle
    pub cycle_names : (a : ℕ) → Reports a ↔ LowestBehind t.atoms edges a
    -- the atom named is the lowest with predecessors left over
    pub left_over : (a : ℕ) → Reports a → Stuck t.atoms (t.atoms + t.nodes) edges a
