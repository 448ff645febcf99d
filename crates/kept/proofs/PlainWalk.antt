-- By consistent tables the walk begins, takes nodes and ends as document 01 tells it.
-- Assumes nothing.
use native.Mathlib.Omega.{arith}
use mathlib.Core.Path.{refl}
use borrow.Author.Tests.{eq-eqb, le-ltb}
use Rattle.kept.specs.Tables.{Tables, node_count}
use Rattle.kept.specs.Evaluation.{held, summary}
use Rattle.kept.specs.Step.{step_at, step}
use Rattle.kept.specs.Consistent.{Consistent}
use Rattle.kept.specs.Planned.{PlannedTables}
use Rattle.kept.specs.PlannedLaws.{consistent}
use Rattle.kept.proofs.WorklistLaws.{first-none}
use Rattle.kept.proofs.StepLaws.{step_summary}
use Rattle.kept.proofs.StartLaws.{start_fresh}
use Rattle.kept.specs.PlainWalk.{PlainWalk}

by_consistent : (T : Tables) → Consistent T → PlainWalk T
unfolding step step_at summary held
by_consistent T good =
    record {
      begins = start_fresh T good;
      takes = λ v w c L k x. step_summary T good v w c L x k;
      ends = λ v w c L x h. rw (first-none w (node_count T) L x h, le-ltb (node_count T) (node_count T) (omega arith), eq-eqb (node_count T) (node_count T) refl);
    }

pub plain_walk : (T : Tables) → PlannedTables T → PlainWalk T
plain_walk T plan = by_consistent T (consistent T plan)
