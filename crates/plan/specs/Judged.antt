-- The refusals of planning in document 01's order: 3 by counts, 9, then 1, 6, 4, 5 by node and 7 by root, 10 and 11 by root, then 12, or 13 and 14.
-- Assumes nothing.
use Rattle.std.specs.Prelude.{ℕ, ◌+◌, List, Option, Some, None, Err}
use Rattle.graph.specs.Derive.{Derived, ranks, cycle, derive}
use Rattle.theory.specs.Limits.{limits_of}
use Rattle.theory.specs.Admission.{or_else, admission, Admission, admitted}
use Rattle.theory.specs.declared.Counts.{Counts}
use Rattle.theory.specs.declared.Refusal.TheVariants.{PositiveCycle}
use Rattle.compile.specs.ClassWord.{class_words}
use Rattle.compile.specs.Producers.{roots_supported}
use Rattle.ranks.specs.Dependency.{dependencies}
use Rattle.ranks.specs.RankCheck.{rank_check}
use Rattle.plan.specs.Buffers.{short_buffer}
use Rattle.plan.specs.declared.Lengths.{Lengths}

module _ (t : Counts) (nodes operands roots : List ℕ) where
  abbrev pub classes : List ℕ
  classes = class_words nodes operands t.nodes

  -- up to 11
  unfoldable pub judged : Lengths → Admission
  judged l = or_else (limits_of t) (or_else (short_buffer t l) (or_else (admission t nodes operands roots) (roots_supported t nodes operands classes roots)))

  -- the ranks derived, or the cycle
  unfoldable pub derived : Derived
  derived = derive t.atoms (t.atoms + t.nodes) (dependencies t nodes operands classes roots)

  abbrev pub acyclic : Derived → Admission
  acyclic (ranks rs) = admitted
  acyclic (cycle a) = Err (PositiveCycle a)

  -- the ranks proposed are checked; else they are derived
  abbrev pub ranks_judged : Option (List ℕ) → Admission
  ranks_judged None = acyclic derived
  ranks_judged (Some proposed) = rank_check t nodes operands classes roots proposed

  -- of `plan`, and of `certify` with proposed ranks
  unfoldable pub plan_judged : Lengths → Admission
  plan_judged l = or_else (judged l) (acyclic derived)

  unfoldable pub certify_judged : Lengths → List ℕ → Admission
  certify_judged l proposed = or_else (judged l) (rank_check t nodes operands classes roots proposed)
