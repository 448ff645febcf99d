-- The verdict on planned tables decides their theory in Ferraris's terms.
-- Assumes nothing.
use Prim.Native.Nat.{ℕ, zero, suc, ◌<◌}
use native.Mathlib.Omega.{arith}
use mathlib.Core.Path.{◌≡◌, refl, ap, sym, ◌∙◌}
use mathlib.Core.Logic.{◌↔◌}
use mathlib.Core.Bool.{true, false, true≢false, false≢true}
use mathlib.Core.List.{List, [], ◌∷◌, map}
use lib.ListN.{length, get_or, length-map}
use Rattle.base.specs.Tests.{same_test}
use Rattle.formula.specs.Formula.{Formula, falsum, of_list}
use Rattle.formula.specs.Satisfaction.{Interpretation, sat, all}
use Rattle.formula.specs.Passes.{Within}
use Rattle.formula.specs.Root as papers
use Rattle.formula.specs.Stable.{Stable}
use Rattle.formula.specs.Support.{SupportedModel}
use Rattle.formula.specs.Named as named
use Rattle.formula.specs.Named.{FirstFalsified, LowestUnproduced}
use Rattle.formula.proofs.Fages.{fages}
use Rattle.formula.proofs.Producers.{unproduced_by, unsupported_by}
use Rattle.theory.specs.NodeFormula.{formula, theory_of}
use Rattle.compile.specs.Roots.{roots_of}
use Rattle.kept.specs.Tables.{Tables, atom_count, root_count, root_at}
use Rattle.kept.specs.Evaluation.{truth}
use Rattle.kept.specs.Verdict.{Verdict, not_model, residual, stable, verdict}
use Rattle.kept.specs.Naming.{FirstFalse, FirstUnproduced, AllTrue, Unproduced, AllProduced, Right}
use Rattle.kept.proofs.VerdictLaws.{verdict_right}
use Rattle.kept.specs.Planned.{PlannedTables}
use Rattle.kept.specs.PlannedLaws.{root_list, length_roots, root_listed}
use Rattle.kept.proofs.StableLaws.{theory_is, formulas_are, truth_sat, unproduced_is, is_unproduced, model_true, true_model, to_supported, from-supported}
use Rattle.kept.specs.Decides.{Decides, DecidesTheory}

get_or-mapped : (f : ℕ → Formula) (xs : List ℕ) (i : ℕ) → i < length xs → get_or (map f xs) i falsum ≡ f (get_or xs i 0)
get_or-mapped f [] i l = absurd (omega arith)
get_or-mapped f (x ∷ xs) zero l = refl
get_or-mapped f (x ∷ xs) (suc i) l = get_or-mapped f xs i (omega arith)

module _ (T : Tables) (plan : PlannedTables T) (I : Interpretation) where
  abbrev f : ℕ → Formula
  f = formula T.counts T.nodes T.operands

  abbrev roots : List Formula
  roots = theory_of T.counts T.nodes T.operands T.roots

  abbrev papers_roots : List papers.Root
  papers_roots = roots_of T.counts T.nodes T.operands T.roots

  -- ---- roots

  length_roots_are : length roots ≡ root_count T
  length_roots_are = length-map (root_list T plan) f ∙ length_roots T plan

  root_sat : (r : ℕ) → r < root_count T → sat I (get_or roots r falsum) ≡ truth T I (root_at T r)
  root_sat r l =
      ap (sat I) (get_or-mapped f (root_list T plan) r (omega (arith, length_roots T plan)) ∙ ap f (root_listed T plan r l)) ∙ sym (truth_sat T plan I (root_at T r))

  falsified : (r : ℕ) → FirstFalse T I r → FirstFalsified I roots r
  falsified r w =
      let l : r < root_count T = w.within in
      record {
        within = omega (arith, length_roots_are);
        falsified = root_sat r l ∙ w.untrue;
        before = λ q h. root_sat q (omega arith) ∙ w.before q h;
      }

  untrue : (r : ℕ) → FirstFalsified I roots r → FirstFalse T I r
  untrue r w =
      let l : r < root_count T = omega (arith, length_roots_are, w.within) in
      record { within = l; untrue = sym (root_sat r l) ∙ w.falsified; before = λ q h. sym (root_sat q (omega arith)) ∙ w.before q h }

  -- ---- atoms

  to_unproduced : (a : ℕ) → Unproduced T I a → named.Unproduced I roots a
  to_unproduced a u = rw (formulas_are T plan) at (unproduced_by I a papers_roots (unproduced_is T plan I a u))

  from_unproduced : (a : ℕ) → named.Unproduced I roots a → Unproduced T I a
  from_unproduced a u = is_unproduced T plan I a (unsupported_by I a papers_roots (rw (formulas_are T plan) u))

  module _ (w : Within (atom_count T) I) where
    lowest : (a : ℕ) → FirstUnproduced T I a → LowestUnproduced I roots a
    lowest a u = record { present = u.present; unproduced = to_unproduced a u.lacking; before = λ b l p n. u.before b l p (from_unproduced b n) }

    first : (a : ℕ) → LowestUnproduced I roots a → FirstUnproduced T I a
    first a u =
        record { within = w a u.present; present = u.present; lacking = from_unproduced a u.unproduced; before = λ b l p n. u.before b l p (to_unproduced b n) }

    -- ---- the verdict

    stable_right : (v : Verdict) → Right T I v → (v ≡ stable) ↔ Stable I (of_list roots)
    stable_right v r =
        let model : SupportedModel I papers_roots ↔ Stable I (papers.theory papers_roots) = fages plan.ranks I papers_roots plan.ranked in (
          λ e. rw (theory_is T plan) at (model.0 (to_supported T plan I w (r.says_stable e).0 (r.says_stable e).1)),
          λ s. let q : AllTrue T I × AllProduced T I = from-supported T plan I (model.1 (rw (theory_is T plan) s)) in r.stable_said q.0 q.1,
        )

    no_model_lem : (k : ℕ) → Right T I (not_model k) → all I (of_list roots) ≡ false
    no_model_lem k r =
        let x = r.names_root k refl in
        same_test (all I (of_list roots)) false (λ e. absurd (true≢false (sym (model_true T plan I e x.0 x.1.within) ∙ x.1.untrue))) (λ e. absurd (false≢true e))

    names_root : (v : Verdict) → Right T I v → (k : ℕ) → (v ≡ not_model k) ↔ ((r : ℕ) × FirstFalsified I roots r × (get_or (root_list T plan) r 0 ≡ k))
    names_root v r k = (
      λ e. let x = r.names_root k e in (x.0, falsified x.0 x.1, root_listed T plan x.0 x.1.within ∙ x.2),
      λ x. let u = untrue x.0 x.1 in r.root_named x.0 u ∙ ap not_model (sym (root_listed T plan x.0 u.within) ∙ x.2),
    )

    names_atom : (v : Verdict) → Right T I v → (a : ℕ) → (v ≡ residual a) ↔ ((all I (of_list roots) ≡ true) × LowestUnproduced I roots a)
    names_atom v r a = (
      λ e. let x = r.names_atom a e in (true_model T plan I x.0, lowest a x.1),
      λ x. r.atom_named a (model_true T plan I x.0) (first a x.1),
    )

    decided_by : (v : Verdict) → Right T I v → (v ≡ stable) ↔ Stable I (of_list roots) → Decides (root_list T plan) roots I v
    decided_by (not_model k) r s =
        let no = no_model_lem k r in
        record {
          is_not_model = (λ z. no, λ z. (k, refl));
          names_root = names_root (not_model k) r;
          model_not_stable = (λ z. let q = z.1 in let y : ◌≡◌ {A = ℕ} 0 1 = cc in absurd (omega arith), λ z. absurd (true≢false (sym z.0 ∙ no)));
          names_atom = names_atom (not_model k) r;
          stable_model = s;
        }
    decided_by (residual a) r s =
        let yes : all I (of_list roots) ≡ true = true_model T plan I (r.names_atom a refl).0 in
        record {
          is_not_model = (λ z. let q = z.1 in let y : ◌≡◌ {A = ℕ} 0 1 = cc in absurd (omega arith), λ z. absurd (true≢false (sym yes ∙ z)));
          names_root = names_root (residual a) r;
          model_not_stable = (λ z. (yes, λ st. let q : residual a ≡ stable = s.1 st in let y : ◌≡◌ {A = ℕ} 0 1 = cc in omega arith), λ z. (a, refl));
          names_atom = names_atom (residual a) r;
          stable_model = s;
        }
    decided_by stable r s =
        let yes : all I (of_list roots) ≡ true = true_model T plan I (r.says_stable refl).0 in
        record {
          is_not_model = (λ z. let q = z.1 in let y : ◌≡◌ {A = ℕ} 0 1 = cc in absurd (omega arith), λ z. absurd (true≢false (sym yes ∙ z)));
          names_root = names_root stable r;
          model_not_stable = (λ z. let q = z.1 in let y : ◌≡◌ {A = ℕ} 0 1 = cc in absurd (omega arith), λ z. absurd (z.1 (s.0 refl)));
          names_atom = names_atom stable r;
          stable_model = s;
        }

    -- the verdict decides the theory
    pub decided : DecidesTheory T.counts T.nodes T.operands T.roots I (verdict T I)
    decided = decided_by (verdict T I) (verdict_right T I) (stable_right (verdict T I) (verdict_right T I))
