-- What a check is lent after a planning call: the theory's tables and what the call wrote.
-- Assumes nothing.
use Rattle.std.specs.Prelude.{ℕ, List}
use Rattle.theory.specs.declared.Counts.{Counts}
use Rattle.plan.specs.Outcome.{Outcome}
use Rattle.kept.specs.Tables.{Tables}

-- with p producers, and the theory's stamp as the plan's
abbrev pub lent : Counts → List ℕ → List ℕ → List ℕ → ℕ → Outcome → Tables
lent t nodes operands roots p o =
    record { counts = t; plan = t.stamp; made = p; nodes = nodes; operands = operands; roots = roots; producers = o.producers; readers = o.readers }
