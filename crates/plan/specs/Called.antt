-- The public calls: from the buffers as lent to an entered theory.
-- Assumes nothing.
use Rattle.std.specs.Prelude.{ℕ, ◌≤◌, ◌≡◌, refl, Bool, true, false, cond, ◌&&◌, List, eqb, length, take, replicate, Option, Some, None, option_copied, unwrap_or, Ok, Err}
use Rattle.std.specs.Borrow.{Bor}
use Rattle.std.proofs.Common.{arith, ◌∙◌, take_all, eqb-true, ⊎_elim}
use Rattle.std.proofs.Math.Path.{ap, sym}
use Rattle.std.proofs.lemmas.List.{length-replicate, get_or-replicate}
use Rattle.std.proofs.Math.ListN.{get_or-eq_default}
use Rattle.base.specs.Tests.{both_left, below_or}
use Rattle.theory.specs.Admission.{or_else, admission, all_below, Admission, admitted}
use Rattle.theory.specs.Limits.{limits_of}
use Rattle.theory.specs.Refusals.{not_both, or_else_left, or-else-right}
use Rattle.theory.proofs.Admitted.{admitted_formed, starts_within}
use Rattle.theory.specs.declared.Counts.{Counts}
use Rattle.theory.specs.declared.Refusal.{Refusal}
use Rattle.theory.specs.declared.Refusal.TheVariants.{RankShape}
use Rattle.compile.specs.ClassWord.{class_words}
use Rattle.compile.specs.Producers.{roots_supported}
use Rattle.ranks.specs.RankCheck.{rank_order, rank_check}
use Rattle.theory.specs.LimitsLaws.{within_limits}
use Rattle.plan.specs.Buffers.{short_buffer, long_enough}
use Rattle.plan.specs.Judged.{judged, derived, acyclic, plan_judged, certify_judged}
use Rattle.plan.specs.Outcome.{Outcome, outcome, planned, lengths, plan_outcome, certify_outcome}
use Rattle.plan.specs.JudgedIn.{Zero}
use Rattle.plan.specs.Finished.{Entered, judged_by, ranks_by, accepted_by}

or_else_assoc : (a b c : Admission) → or_else (or_else a b) c ≡ or_else a (or_else b c)
or_else_assoc (Ok u) b c = refl
or_else_assoc (Err r) b c = refl

-- a rank check that accepts has one rank an atom
pub accepted-long : (t : Counts) (nodes operands roots proposed : List ℕ) → accepted_by t nodes operands roots proposed ≡ admitted → length proposed ≡ t.atoms
unfolding accepted_by rank_check
accepted-long t nodes operands roots proposed e =
    go (eqb (length proposed) t.atoms && all_below t.atoms proposed) refl (or-else-right (roots_supported t nodes operands (class_words nodes operands t.nodes) roots) _ e)
  where
    go : (b : Bool) → (eqb (length proposed) t.atoms && all_below t.atoms proposed) ≡ b
        → cond b (rank_order t nodes operands (class_words nodes operands t.nodes) roots proposed) (Err RankShape) ≡ admitted → length proposed ≡ t.atoms
    go true i q = eqb-true (length proposed) t.atoms (both_left (eqb (length proposed) t.atoms) (all_below t.atoms proposed) i)
    go false i q = absurd (not_both RankShape q)

pub accepted_take : (t : Counts) (proposed : List ℕ) → length proposed ≡ t.atoms → take t.atoms proposed ≡ proposed
accepted_take t proposed e = take_all t.atoms proposed (omega arith)

-- an accepted theory's ranks: those proposed, or those that stand where they are derived
module _ (t : Counts) (nodes operands roots : List ℕ) (proposed : Option (Bor (List ℕ))) (made : Bor (List ℕ)) (e : judged_by t nodes operands roots (option_copied proposed) ≡ admitted) where
  given_long : (p : List ℕ) → option_copied proposed ≡ Some p → length p ≡ t.atoms
  unfolding judged_by accepted_by
  given_long p i = accepted-long t nodes operands roots p (rw i at e)

  pub source_enough : t.atoms ≤ length made.now → t.atoms ≤ length (unwrap_or proposed made).now
  source_enough l = go proposed refl
    where
      go : (o : Option (Bor (List ℕ))) → proposed ≡ o → t.atoms ≤ length (unwrap_or o made).now
      go None i = l
      go (Some p) i = omega (arith, given_long p.now (ap option_copied i))

  pub source_ranks : (proposed ≡ None → take t.atoms made.now ≡ ranks_by t nodes operands roots None) → take t.atoms (unwrap_or proposed made).now ≡ ranks_by t nodes operands roots (option_copied proposed)
  source_ranks l = go proposed refl
    where
      go : (o : Option (Bor (List ℕ))) → proposed ≡ o → take t.atoms (unwrap_or o made).now ≡ ranks_by t nodes operands roots (option_copied o)
      go None i = l i
      go (Some p) i = accepted_take t p.now (given_long p.now (ap option_copied i))

zero_list : (n : ℕ) → Zero (replicate n 0)
zero_list n = record { at = λ k. ⊎_elim (λ l. get_or-replicate {A = ℕ} n k 0 0 l) (λ m. get_or-eq_default (replicate n 0) 0 (omega (arith, length-replicate {A = ℕ} n 0))) (below_or k n) }

-- a zeroed area is zeroed again to the same
module _ (t : Counts) (nodes operands roots : List ℕ) where
  again : (ps rs us ws : List ℕ) (j : Admission) (ranked : List ℕ) → planned t nodes operands roots ps rs us (replicate (length ws) 0) j ranked ≡ planned t nodes operands roots ps rs us ws j ranked
  unfolding planned
  again ps rs us ws (Ok u) ranked = rw (length-replicate {A = ℕ} (length ws) 0)
  again ps rs us ws (Err r) ranked = rw (length-replicate {A = ℕ} (length ws) 0)

module _ (t : Counts) (nodes operands roots ps rs us ws : List ℕ) where
  -- what a call leaves, with proposed ranks or none
  abbrev pub outcome_by : Option (List ℕ) → Outcome
  outcome_by None = plan_outcome t nodes operands roots ps rs us ws
  outcome_by (Some proposed) = certify_outcome t nodes operands roots proposed ps rs us ws

  -- what `enter` answers
  abbrev pub entry : Admission
  entry = or_else (limits_of t) (or_else (short_buffer t (lengths t nodes operands roots ps rs us ws)) (admission t nodes operands roots))

  split : (rest : Admission) → or_else (judged t nodes operands roots (lengths t nodes operands roots ps rs us ws)) rest
      ≡ or_else entry (or_else (roots_supported t nodes operands (class_words nodes operands t.nodes) roots) rest)
  unfolding judged
  split rest =
      or_else_assoc (limits_of t) _ rest
      ∙ ap (or_else (limits_of t)) (or_else_assoc (short_buffer t (lengths t nodes operands roots ps rs us ws)) _ rest
      ∙ ap (or_else (short_buffer t (lengths t nodes operands roots ps rs us ws))) (or_else_assoc (admission t nodes operands roots) _ rest)
      ∙ sym (or_else_assoc (short_buffer t (lengths t nodes operands roots ps rs us ws)) (admission t nodes operands roots) _))
      ∙ sym (or_else_assoc (limits_of t) _ _)

  module _ (a : Admission) (e : a ≡ or_else (limits_of t) (or_else (short_buffer t (lengths t nodes operands roots ps rs us ws)) (admission t nodes operands roots))) where
    pub entry_refused : (proposed : Option (List ℕ)) (r : Refusal) → a ≡ Err r → outcome (Err r) ps rs us (replicate (length ws) 0) ≡ outcome_by proposed
    unfolding plan_outcome certify_outcome planned plan_judged certify_judged
    entry_refused None r q = rw (split (acyclic t nodes operands roots (derived t nodes operands roots)), sym e ∙ q)
    entry_refused (Some proposed) r q = rw (split (rank_check t nodes operands (class_words nodes operands t.nodes) roots proposed), sym e ∙ q)

    module _ (q : a ≡ admitted) where
      all : or_else (limits_of t) (or_else (short_buffer t (lengths t nodes operands roots ps rs us ws)) (admission t nodes operands roots)) ≡ admitted
      all = sym e ∙ q

      tail : or_else (short_buffer t (lengths t nodes operands roots ps rs us ws)) (admission t nodes operands roots) ≡ admitted
      tail = or-else-right (limits_of t) _ all

      pub is_entered : Entered t nodes operands roots (length ps) (length rs) (length us) (replicate (length ws) 0)
      is_entered =
          let long = long_enough t (lengths t nodes operands roots ps rs us ws) (or_else_left (short_buffer t (lengths t nodes operands roots ps rs us ws)) _ tail) in
          let well = admitted_formed t nodes operands roots (or-else-right (short_buffer t (lengths t nodes operands roots ps rs us ws)) _ tail) in
          record {
            limited = within_limits t (or_else_left (limits_of t) _ all);
            tables = record { nodes_long = long.nodes_long; operands_long = long.operands_long; formed = well.node };
            listed = record { roots_long = long.roots_long; in_nodes = well.root };
            starts = starts_within t nodes operands roots well t.nodes (omega arith);
            producers_long = long.producers_long;
            ranks_long = long.ranks_long;
            readers_long = long.readers_long;
            work_long = omega (arith, long.work_long, length-replicate {A = ℕ} (length ws) 0);
            work_zero = zero_list (length ws);
          }

      pub entered_outcome : (proposed : Option (List ℕ)) (o : Outcome)
          → o ≡ planned t nodes operands roots ps rs us (replicate (length ws) 0) (judged_by t nodes operands roots proposed) (ranks_by t nodes operands roots proposed) → o ≡ outcome_by proposed
      unfolding plan_outcome certify_outcome plan_judged certify_judged judged_by
      entered_outcome None o w = w ∙ rw (split (acyclic t nodes operands roots (derived t nodes operands roots)), sym e ∙ q) (again t nodes operands roots ps rs us ws _ _)
      entered_outcome (Some proposed) o w =
          w ∙ rw (split (rank_check t nodes operands (class_words nodes operands t.nodes) roots proposed), sym e ∙ q) (again t nodes operands roots ps rs us ws _ proposed)
