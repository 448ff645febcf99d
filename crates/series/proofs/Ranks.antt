-- Demand 2 of the public calls: the ranks that `plan` writes are the least that `certify` accepts, and it reports a positive cycle exactly if `certify` accepts none.
-- Assumes nothing.
use Rattle.std.specs.Prelude.{Ok, Err}
use Prim.Native.Nat.{ℕ, ◌<◌}
use native.Mathlib.Omega.{arith}
use mathlib.Core.Path.{◌≡◌, refl, ap, sym, ◌∙◌}
use mathlib.Core.Logic.{inl, inr, ◌↔◌}
use mathlib.Core.List.{List, ◌++◌}
use lib.ListN.{length, get_or, take, drop, get_or-append}
use lib.Seq.{take_at}
use Rattle.base.specs.Front.{front}
use Rattle.graph.specs.Derive.{Derived, ranks, cycle}
use Rattle.theory.specs.WellFormed.{NodeTables, WellFormed}
use Rattle.theory.specs.declared.Counts.{Counts}
use Rattle.theory.specs.declared.Refusal.{Refusal}
use Rattle.theory.specs.declared.Refusal.TheVariants.{PositiveCycle}
use Rattle.ranks.specs.Classed.{Classed}
use Rattle.ranks.specs.RankCheck.{rank_check}
use Rattle.ranks.proofs.Ranks as check
use Rattle.plan.specs.Judged.{classes, derived, acyclic, plan_judged, certify_judged}
use Rattle.plan.specs.Finished.{accepted_by}
use Rattle.plan.specs.Called.{accepted-long}
use Rattle.plan.specs.Outcome.{producers_of, planned, ranks_of, plan_outcome, certify_outcome}
use Rattle.series.specs.Ranks.{RootsAdmitted, plan_made, rank_of, Derives, Reports, Answers, certify_made, Certifies, Demand2Ranks}
use Rattle.series.proofs.Planned.{supported, well, tables, classed, answered}
use Rattle.series.proofs.Admitted.{answers_admitted}
use Rattle.theory.specs.Admission.{Admission, admitted}

no_refusal : (r : Refusal) (p : ℕ) → Err r ≡ Ok p → ⊥
no_refusal r p e = let z : ◌≡◌ {A = ℕ} 0 1 = cc in omega arith

module _ (t : Counts) (nodes operands roots ps rs us ws : List ℕ) (j : RootsAdmitted t nodes operands roots ps rs us ws) where
  abbrev classes_of : List ℕ
  classes_of = classes t nodes operands roots

  abbrev rank_test : List ℕ → Admission
  rank_test proposed = rank_check t nodes operands classes_of roots proposed

  abbrev formed : WellFormed t nodes operands roots
  formed = well t nodes operands roots ps rs us ws j

  abbrev in_tables : NodeTables t nodes operands
  in_tables = tables t nodes operands roots ps rs us ws j

  abbrev in_classes : Classed t nodes operands classes_of
  in_classes = classed t nodes operands roots ps rs us ws j

  -- ---- what the calls are, once all roots are admitted

  plan_by_lem : (d : Derived) → derived t nodes operands roots ≡ d
      → plan_made t nodes operands roots ps rs us ws ≡ planned t nodes operands roots ps rs us ws (acyclic t nodes operands roots d) (ranks_of t nodes operands roots d)
  unfolding plan_outcome plan_judged
  plan_by_lem d e = rw (j, e)

  certify_by_lem : (proposed : List ℕ) → certify_made t nodes operands roots ps rs us ws proposed ≡ planned t nodes operands roots ps rs us ws (rank_test proposed) proposed
  unfolding certify_outcome certify_judged
  certify_by_lem proposed = rw j

  -- `certify` accepts exactly what the rank check accepts
  certifies_is : (proposed : List ℕ) → Certifies t nodes operands roots ps rs us ws proposed ↔ (rank_test proposed ≡ admitted)
  unfolding planned
  certifies_is proposed = (
    λ w. (answered t nodes operands roots ps rs us ws w.0 (rank_test proposed) proposed (sym (ap (λ o. o.answer) (certify_by_lem proposed)) ∙ w.1)).0,
    λ r. (length (producers_of t nodes operands roots), ap (λ o. o.answer) (certify_by_lem proposed) ∙ rw r),
  )

  -- `plan` answers by the derivation
  found_derives : (found : List ℕ) → derived t nodes operands roots ≡ ranks found → Derives t nodes operands roots ps rs us ws
  unfolding planned
  found_derives found d = (length (producers_of t nodes operands roots), ap (λ o. o.answer) (plan_by_lem (ranks found) d))

  cycle_reports : (a : ℕ) → derived t nodes operands roots ≡ cycle a → Reports t nodes operands roots ps rs us ws a
  unfolding planned
  cycle_reports a d = ap (λ o. o.answer) (plan_by_lem (cycle a) d)

  derives_found : Derives t nodes operands roots ps rs us ws → (found : List ℕ) × (derived t nodes operands roots ≡ ranks found)
  derives_found w = go (derived t nodes operands roots) refl
    where
      go : (d : Derived) → derived t nodes operands roots ≡ d → (found : List ℕ) × (derived t nodes operands roots ≡ ranks found)
      go (ranks found) d = (found, d)
      go (cycle a) d = absurd (no_refusal (PositiveCycle a) w.0 (sym (cycle_reports a d) ∙ w.1))

  reports_cycle : (a : ℕ) → Reports t nodes operands roots ps rs us ws a → derived t nodes operands roots ≡ cycle a
  reports_cycle a e = go (derived t nodes operands roots) refl
    where
      go : (d : Derived) → derived t nodes operands roots ≡ d → derived t nodes operands roots ≡ cycle a
      go (ranks found) d = let w = found_derives found d in absurd (no_refusal (PositiveCycle a) w.0 (sym e ∙ w.1))
      go (cycle c) d = let g : Err (PositiveCycle c) ≡ Err (PositiveCycle a) = sym (cycle_reports c d) ∙ e in cc

  -- ---- the ranks written

  module _ (found : List ℕ) (d : derived t nodes operands roots ≡ ranks found) where
    found_accepted : rank_test found ≡ admitted
    unfolding derived
    found_accepted = check.derived_accepted t nodes operands classes_of roots formed in_tables in_classes found d

    found_long : length found ≡ t.atoms
    unfolding accepted_by
    found_long = accepted-long t nodes operands roots found (rw (supported t nodes operands roots ps rs us ws j) found_accepted)

    written : (plan_made t nodes operands roots ps rs us ws).ranks ≡ found ++ drop (length found) rs
    unfolding planned front
    written = ap (λ o. o.ranks) (plan_by_lem (ranks found) d)

    front_is : take t.atoms (plan_made t nodes operands roots ps rs us ws).ranks ≡ found
    front_is = ap (take t.atoms) written ∙ take_at found (drop (length found) rs) t.atoms found_long

    rank_is : (a : ℕ) → a < t.atoms → rank_of t nodes operands roots ps rs us ws a ≡ get_or found a 0
    rank_is a l = ap (λ xs. get_or xs a 0) written ∙ get_or-append found (drop (length found) rs) 0 a (omega (arith, found_long))

    certified_again : certify_made t nodes operands roots ps rs us ws (take t.atoms (plan_made t nodes operands roots ps rs us ws).ranks) ≡ plan_made t nodes operands roots ps rs us ws
    certified_again = ap (certify_made t nodes operands roots ps rs us ws) front_is ∙ certify_by_lem found ∙ rw found_accepted (sym (plan_by_lem (ranks found) d))

  -- ---- the theorem

  answers : Answers t nodes operands roots ps rs us ws
  answers = go (derived t nodes operands roots) refl
    where
      go : (d : Derived) → derived t nodes operands roots ≡ d → Answers t nodes operands roots ps rs us ws
      go (ranks found) d = inl (found_derives found d)
      go (cycle a) d = inr (a, cycle_reports a d)

  pub demand_2_ranks : Demand2Ranks t nodes operands roots ps rs us ws
  unfolding derived
  demand_2_ranks =
      record {
        accepted = λ w. let f = derives_found w in certified_again f.0 f.1;
        least = λ w proposed c a l.
            let f = derives_found w in
            omega (arith, rank_is f.0 f.1 a l, check.derived_least t nodes operands classes_of roots formed in_tables in_classes f.0 proposed f.1 ((certifies_is proposed).0 c) a l);
        longest = λ w a l.
            let f = derives_found w in
            rw (rank_is f.0 f.1 a l) (check.derived_longest t nodes operands classes_of roots formed in_tables in_classes f.0 f.1 a l);
        cycle_exactly = (
          λ w proposed c. (check.cycle_exactly t nodes operands classes_of roots formed in_tables in_classes).0 (w.0, reports_cycle w.0 w.1) proposed ((certifies_is proposed).0 c),
          λ f. let c = (check.cycle_exactly t nodes operands classes_of roots formed in_tables in_classes).1 (λ proposed r. f proposed ((certifies_is proposed).1 r)) in (c.0, cycle_reports c.0 c.1),
        );
        cycle_names = λ a. (
          λ e. (check.cycle_names t nodes operands classes_of roots formed in_tables in_classes a).0 (reports_cycle a e),
          λ w. cycle_reports a ((check.cycle_names t nodes operands classes_of roots formed in_tables in_classes a).1 w),
        );
        left_over = λ a e. check.cycle_stuck t nodes operands classes_of roots formed in_tables in_classes a (reports_cycle a e);
      }

-- all roots are admitted exactly if `plan` derives ranks or reports a positive cycle
pub admitted_exactly : (t : Counts) (nodes operands roots ps rs us ws : List ℕ) → RootsAdmitted t nodes operands roots ps rs us ws ↔ Answers t nodes operands roots ps rs us ws
admitted_exactly t nodes operands roots ps rs us ws = (answers t nodes operands roots ps rs us ws, answers_admitted t nodes operands roots ps rs us ws)
