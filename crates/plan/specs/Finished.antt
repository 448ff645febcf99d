-- A planning call once its theory is entered: what it asks, and what it leaves.
-- Assumes nothing.
use Rattle.std.specs.Prelude.{ℕ, ◌+◌, ◌*◌, ◌-◌, ◌≤◌, ◌≡◌, refl, List, ◌++◌, length, take, drop, Option, Some, None, Ok, Err}
use Rattle.std.proofs.Common.{arith, ap, sym, ◌∙◌, length-drop, get_or-drop, take-take, drop-drop, length-take-le}
use Rattle.base.specs.Front.{front}
use Rattle.theory.specs.Admission.{or_else, span_start, Admission, admitted}
use Rattle.theory.specs.Limits.{Limited}
use Rattle.theory.specs.WellFormed.{NodeTables, RootTable}
use Rattle.theory.specs.declared.Counts.{Counts}
use Rattle.theory.specs.declared.Refusal.{Refusal}
use Rattle.compile.specs.ClassWord.{class_words}
use Rattle.compile.specs.Producers.{roots_supported, producers_before, producer_words}
use Rattle.readers.specs.ReaderTable.{built}
use Rattle.ranks.specs.RankCheck.{rank_check}
use Rattle.kahn.specs.Area.{part}
use Rattle.dependency.specs.Laying.{Ready}
use Rattle.dependency.specs.LayingLaws.{tail_long, tail_back}
use Rattle.plan.specs.Buffers.{readers_length, work_length}
use Rattle.plan.specs.Judged.{derived, ranks_judged}
use Rattle.plan.specs.Outcome.{outcome, planned, zeroed, ranks_of}
use Rattle.plan.specs.JudgedIn.{Zero}

-- what `finish` leaves
pub record Finished (t : Counts) (nodes operands roots classes source ps rs us ps' rs' us' : List ℕ) (p : ℕ) : Type 0 where
  pub number : p ≡ length (producers_before nodes operands classes roots t.roots)
  pub producers : ps' ≡ front (producer_words (producers_before nodes operands classes roots t.roots)) ps
  pub ranks : rs' ≡ front (take t.atoms source) rs
  pub readers : us' ≡ built t nodes operands roots ps' p us

-- a theory that is entered, buffers as long as listed, and a zeroed work area
pub record Entered (t : Counts) (nodes operands roots : List ℕ) (ps rs us : ℕ) (work : List ℕ) : Type 0 where
  pub limited : Limited t
  pub tables : NodeTables t nodes operands
  pub listed : RootTable t roots
  pub starts : span_start nodes t.nodes ≤ t.operands
  pub producers_long : 4 * t.roots ≤ ps
  pub ranks_long : t.atoms ≤ rs
  pub readers_long : readers_length t ≤ us
  pub work_long : work_length t ≤ length work
  pub work_zero : Zero work

module _ (t : Counts) (nodes operands roots : List ℕ) where
  -- ranks proposed, if there are any, are taken; else they are derived
  unfoldable pub judged_by : Option (List ℕ) → Admission
  judged_by proposed = or_else (roots_supported t nodes operands (class_words nodes operands t.nodes) roots) (ranks_judged t nodes operands roots proposed)

  abbrev pub ranks_by : Option (List ℕ) → List ℕ
  ranks_by None = ranks_of t nodes operands roots (derived t nodes operands roots)
  ranks_by (Some proposed) = proposed

  unfoldable pub accepted_by : List ℕ → Admission
  accepted_by proposed = or_else (roots_supported t nodes operands (class_words nodes operands t.nodes) roots) (rank_check t nodes operands (class_words nodes operands t.nodes) roots proposed)

  module _ (ps rs us work : List ℕ) where
    pub planned_refused : (j : Admission) (ranked : List ℕ) (r : Refusal) → j ≡ Err r → outcome (Err r) ps rs us (zeroed work) ≡ planned t nodes operands roots ps rs us work j ranked
    unfolding planned
    planned_refused j ranked r e = rw e

    pub planned_done : (j : Admission) (ranked classes source ps' rs' us' : List ℕ) (p : ℕ) → j ≡ admitted → classes ≡ class_words nodes operands t.nodes → take t.atoms source ≡ ranked
        → Finished t nodes operands roots classes source ps rs us ps' rs' us' p → outcome (Ok p) ps' rs' us' (zeroed work) ≡ planned t nodes operands roots ps rs us work j ranked
    unfolding planned
    planned_done j ranked classes source ps' rs' us' p e c s f = rw (e, f.readers, f.producers, f.ranks, f.number, s, c)

-- ---- the sections of the work area

module _ (t : Counts) (nodes operands roots : List ℕ) (ps rs us : ℕ) (work : List ℕ) (entered : Entered t nodes operands roots ps rs us work) where
  area_long : t.nodes + 4 * (t.atoms + t.nodes) + 2 * (t.operands + t.nodes + t.roots) ≤ length (drop 16 work)
  area_long = omega (arith, entered.work_long, length-drop 16 work)

  pub area_ready : (area : List ℕ) → area ≡ drop 16 work → Ready t nodes operands roots (t.atoms + t.nodes) area
  area_ready area e =
      record { limited = entered.limited; tables = entered.tables; listed = entered.listed; starts = entered.starts; vertices = refl; long = rw e area_long }

  pub area_zero : (area : List ℕ) → area ≡ drop 16 work → Zero area
  area_zero area e = record { at = λ k. rw e (get_or-drop 16 work k 0 ∙ entered.work_zero.at (16 + k)) }

-- the work area once its part behind the first 16 words came back as ys
module _ (work ys : List ℕ) (fits : 16 ≤ length work) (same : length ys ≡ length (drop 16 work)) where
  abbrev pub last : List ℕ
  last = take 16 work ++ (ys ++ drop (length work - 16) (drop 16 work))

  pub last_long : length last ≡ length work
  last_long = tail_long 16 work ys fits same

  pub classes_part : (n : ℕ) → take (16 + n - 16) (drop 16 last) ≡ take n ys
  classes_part n = let e : 16 + n - 16 ≡ n = omega arith in rw (tail_back 16 work ys fits, e)

  module _ (n v a : ℕ) where
    pub source_part : 16 + n + 2 * v + a ≤ length work → take a (take (length last - (16 + n + 2 * v)) (drop (16 + n + 2 * v) last)) ≡ part (n + 2 * v) a ys
    source_part h =
        take-take a (length last - (16 + n + 2 * v)) (drop (16 + n + 2 * v) last) (omega (arith, last_long))
        ∙ ap (take a)
        (ap (λ m. drop m last) sum ∙ sym (drop-drop (n + 2 * v) 16 last) ∙ ap (drop (n + 2 * v)) (tail_back 16 work ys fits))
      where
        sum : 16 + n + 2 * v ≡ 16 + (n + 2 * v)
        sum = omega arith

    pub source_long : 16 + n + 2 * v + a ≤ length work → a ≤ length (take (length last - (16 + n + 2 * v)) (drop (16 + n + 2 * v) last))
    source_long h =
        rw (length-take-le (length last - (16 + n + 2 * v)) (drop (16 + n + 2 * v) last) (omega (arith, length-drop (16 + n + 2 * v) last)))
        (omega (arith, last_long))

  pub classes_long : (n : ℕ) → 16 + n ≤ length work → n ≤ length (take (16 + n - 16) (drop 16 last))
  classes_long n h =
      rw (classes_part n) (omega (arith, length-take-le n ys (omega (arith, length-drop 16 work))))
