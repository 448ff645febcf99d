-- The answer of a derivation, with the ranks that stand in the work area.
-- Assumes nothing.
use Rattle.std.specs.Prelude.{ℕ, List, Result, Ok, Err}
use Rattle.graph.specs.Derive.{Derived, ranks, cycle}
use Rattle.kahn.specs.declared.Cycle.{Cycle}

abbrev pub answered : Result (Unit {0}) Cycle → List ℕ → Derived
answered (Ok u) rs = ranks rs
answered (Err c) rs = cycle c.atom
