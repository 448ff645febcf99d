-- The verdict residual on planned tables: its atom is the lowest that can be taken out of the candidate.
-- Assumes nothing.
use Prim.Native.Nat.{ℕ}
use mathlib.Core.Path.{refl}
use mathlib.Core.List.{List}
use Rattle.formula.specs.Satisfaction.{Interpretation}
use Rattle.formula.specs.Removable.{LowestRemovable}
use Rattle.formula.specs.Root.{Root}
use Rattle.formula.proofs.Removable.{lowest_exactly}
use Rattle.theory.specs.NodeFormula.{theory_of}
use Rattle.compile.specs.Roots.{roots_of}
use Rattle.kept.specs.Tables.{Tables}
use Rattle.kept.specs.Verdict.{residual}
use Rattle.kept.specs.Decides.{DecidesTheory}
use Rattle.kept.specs.Planned.{PlannedTables}
use Rattle.kept.proofs.StableLaws.{theory_is, formulas_are}

module _ (T : Tables) (plan : PlannedTables T) (I : Interpretation) where
  abbrev roots : List Root
  roots = roots_of T.counts T.nodes T.operands T.roots

  pub residual_removable : (a : ℕ) → DecidesTheory T.counts T.nodes T.operands T.roots I (residual a)
      → LowestRemovable I (theory_of T.counts T.nodes T.operands T.roots) a
  residual_removable a d =
      let named = (d.names_atom a).0 refl in
      rw (formulas_are T plan) at ((lowest_exactly plan.ranks I roots plan.ranked (rw (theory_is T plan) named.0) a).1 (rw (formulas_are T plan) named.1))
