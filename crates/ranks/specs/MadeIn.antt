-- A producer whose head is an atom of the theory, and whose body is one of its nodes.
-- Assumes nothing.
use Rattle.std.specs.Prelude.{ℕ, ◌<◌, ◌≤◌, ◌≡◌, List, Option, Some, None, Result, Ok, Err}
use Rattle.std.proofs.Common.{sym}
use Rattle.theory.specs.WellFormed.{NodeTables}
use Rattle.theory.specs.declared.Counts.{Counts}
use Rattle.compile.specs.Producer.{produced}
use Rattle.compile.proofs.RootFormula.{producer_bounded}
use Rattle.theory.specs.declared.Refusal.{Refusal}
use Rattle.compile.specs.declared.Producer.{Producer}

abbrev pub MadeIn : Counts → Result (Option Producer) Refusal → Type 0
MadeIn t (Ok None) = Unit {0}
MadeIn t (Ok (Some p)) = (p.head < t.atoms) × (p.body ≤ t.nodes)
MadeIn t (Err r) = Unit {0}

pub made_in : (t : Counts) (nodes operands classes : List ℕ) → NodeTables t nodes operands → (k : ℕ) → k < t.nodes → (made : Result (Option Producer) Refusal) → made ≡ produced nodes operands classes k → MadeIn t made
made_in t nodes operands classes tables k l (Ok None) e = tt
made_in t nodes operands classes tables k l (Ok (Some p)) e =
    let b = producer_bounded t nodes operands classes tables k l p (sym e) in
    (b.head_in, b.body_in_lem)
made_in t nodes operands classes tables k l (Err r) e = tt
