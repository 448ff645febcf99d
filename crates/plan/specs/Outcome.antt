-- The whole outcome of a planning call: its answer and every word of buffers 4, 5, 6 and 8.
-- Assumes nothing.
use Rattle.std.specs.Prelude.{ℕ, List, [], length, replicate, Result, Ok, Err}
use Rattle.base.specs.Front.{front}
use Rattle.graph.specs.Derive.{Derived, ranks, cycle}
use Rattle.theory.specs.declared.Counts.{Counts}
use Rattle.compile.specs.ClassWord.{class_words}
use Rattle.compile.specs.Producers.{producers_before, producer_words}
use Rattle.compile.specs.declared.Producer.{Producer}
use Rattle.readers.specs.ReaderTable.{built}
use Rattle.plan.specs.declared.Lengths.{Lengths}
use Rattle.plan.specs.Judged.{derived, plan_judged, certify_judged}
use Rattle.theory.specs.Admission.{Admission}
use Rattle.theory.specs.declared.Refusal.{Refusal}

pub record Outcome : Type 0 where
  pub answer : Result ℕ Refusal
  pub producers : List ℕ
  pub ranks : List ℕ
  pub readers : List ℕ
  pub work : List ℕ

abbrev pub outcome : Result ℕ Refusal → List ℕ → List ℕ → List ℕ → List ℕ → Outcome
outcome a ps rs us ws = record { answer = a; producers = ps; ranks = rs; readers = us; work = ws }

-- the work area is zero after every call
abbrev pub zeroed : List ℕ → List ℕ
zeroed ws = replicate (length ws) 0

module _ (t : Counts) (nodes operands roots : List ℕ) where
  -- the producers of the theory
  abbrev pub producers_of : List Producer
  producers_of = producers_before nodes operands (class_words nodes operands t.nodes) roots t.roots

  -- buffers ps, rs, us, ws; the ranks of the plan, if it is admitted
  unfoldable pub planned : List ℕ → List ℕ → List ℕ → List ℕ → Admission → List ℕ → Outcome
  planned ps rs us ws (Ok u) ranked =
      outcome (Ok (length producers_of)) (front (producer_words producers_of) ps) (front ranked rs)
      (built t nodes operands roots (front (producer_words producers_of) ps) (length producers_of) us) (zeroed ws)
  planned ps rs us ws (Err r) ranked = outcome (Err r) ps rs us (zeroed ws)

  abbrev pub ranks_of : Derived → List ℕ
  ranks_of (ranks rs) = rs
  ranks_of (cycle a) = []

  abbrev pub lengths : List ℕ → List ℕ → List ℕ → List ℕ → Lengths
  lengths ps rs us ws = record { nodes = length nodes; operands = length operands; roots = length roots; producers = length ps; ranks = length rs; readers = length us; work = length ws }

  -- `plan` derives the ranks; `certify` takes them
  unfoldable pub plan_outcome : List ℕ → List ℕ → List ℕ → List ℕ → Outcome
  plan_outcome ps rs us ws = planned ps rs us ws (plan_judged t nodes operands roots (lengths ps rs us ws)) (ranks_of (derived t nodes operands roots))

  unfoldable pub certify_outcome : List ℕ → List ℕ → List ℕ → List ℕ → List ℕ → Outcome
  certify_outcome proposed ps rs us ws = planned ps rs us ws (certify_judged t nodes operands roots (lengths ps rs us ws) proposed) proposed
