-- A check on an evaluation as a value: kept if it holds a check of this stamp and few atoms changed, else fresh.
-- Assumes nothing.
use Rattle.std.specs.Prelude.{ℕ, max, ◌*◌, ◌/◌, Bool, cond, ◌&&◌, eqb, ltb, leb, length, Option, Some, None, Ok, Err}
use Rattle.base.specs.Places.{count}
use Rattle.formula.specs.Satisfaction.{Interpretation}
use Rattle.theory.specs.Admission.{or_else, first_refusal, Admission, admitted}
use Rattle.theory.specs.declared.Refusal.{Refusal}
use Rattle.theory.specs.declared.Refusal.TheVariants.{BadEntry}
use Rattle.words.specs.Changed.{unlike}
use Rattle.kept.specs.Tables.{Tables, atom_count, node_count, root_count, root_at, head_at, body_at}
use Rattle.kept.specs.Seen.{seen_by}
use Rattle.kept.specs.Evaluation.{Evaluation, present, truth, fresh}
use Rattle.kept.specs.Verdict.{Verdict, verdict, verdict_of}
use Rattle.kept.specs.Walk.{Walked, ended, broken, kept_walk}

-- the verdict, the number of nodes gone over and the evaluation then; or a refusal
pub data Result : Type 0 where
  accepted : Verdict → ℕ → Evaluation → Result
  refused : Refusal → Result

-- ---- fresh: all nodes rising, then producers, then roots

abbrev pub entry : Bool → ℕ → Admission
entry b place = cond b admitted (Err (BadEntry place))

abbrev pub seen_entry : ℕ → Option Bool → Admission
seen_entry k None = Err (BadEntry k)
seen_entry k (Some t) = admitted

-- a node's truth by those of lower nodes under J
unfoldable pub node_entry : Tables → Interpretation → ℕ → Admission
node_entry T J k = seen_entry k (seen_by T J (truth T J) k)

unfoldable pub producer_entry : Tables → ℕ → Admission
producer_entry T p = entry (ltb (head_at T p) (atom_count T) && leb (body_at T p) (node_count T)) 0

unfoldable pub root_entry : Tables → ℕ → Admission
root_entry T r = entry (ltb (root_at T r) (node_count T)) 0

unfoldable pub tables_admission : Tables → Interpretation → Admission
tables_admission T J =
    or_else (first_refusal (node_entry T J) 0 (node_count T)) (or_else (first_refusal (producer_entry T) 0 T.made) (first_refusal (root_entry T) 0 (root_count T)))

unfoldable pub fresh_result : Tables → Interpretation → Admission → Result
fresh_result T J (Ok u) = accepted (verdict T J) (node_count T) (fresh T J)
fresh_result T J (Err r) = refused r

-- ---- kept

abbrev pub concluded : Option Verdict → ℕ → Evaluation → Result
concluded None n e = refused (BadEntry 0)
concluded (Some v) n e = accepted v n e

unfoldable pub kept_result : Tables → Walked → Result
kept_result T (ended ks e) = concluded (verdict_of T e) (length ks) e
kept_result T (broken place) = refused (BadEntry place)

-- at how many places the kept candidate's words differ from the new candidate
unfoldable pub changes : Interpretation → Evaluation → ℕ
changes J e = count (λ a. unlike (present e a) (J a)) 0 (length e.candidate * 32)

module _ (floor divisor : ℕ) where
  -- how many changes a kept check takes
  abbrev pub most : Tables → ℕ
  most T = max floor (atom_count T / divisor)

  unfoldable pub is_kept : Tables → Interpretation → Evaluation → Bool
  is_kept T J e = eqb e.state 1 && eqb e.stamp T.counts.stamp && leb (changes J e) (most T)

  -- more producers than roots is 17, place 0
  unfoldable pub result : Tables → Interpretation → Evaluation → Result
  result T J e =
      cond (ltb (root_count T) T.made) (refused (BadEntry 0))
      (cond (is_kept T J e) (kept_result T (kept_walk T J e)) (fresh_result T J (tables_admission T J)))
