-- Worked cases of stable models: of planned theories by the computed test; of others, what the plan keeps out.
-- Assumes nothing.
use Prim.Native.Nat.{ℕ, ◌<◌}
use native.Mathlib.Omega.{arith}
use mathlib.Core.Path.{◌≡◌, refl, sym, ◌∙◌}
use mathlib.Core.Logic.{⊎_elim}
use mathlib.Core.Bool.{Bool, true, false, ◌&&◌, true≢false, false≢true}
use mathlib.Core.List.{List, [], ◌∷◌, map}
use lib.Dec.{eqb, ltb}
use borrow.Author.Tests.{eqb-true, ltb-true}
use Rattle.base.specs.Tests.{both_left, both_right, either, or_right}
use Rattle.formula.specs.Formula.{Formula, atom, falsum, implies, conj, disj, nil, of_list}
use Rattle.formula.specs.Satisfaction.{sat, all}
use Rattle.formula.specs.Reduct.{reduct}
use Rattle.formula.specs.Stable.{Stable}
use Rattle.formula.specs.Removable.{without, Removable, LowestRemovable}
use Rattle.formula.specs.Class.{frozen, class}
use Rattle.formula.specs.Rank.{highest}
use Rattle.formula.specs.Head.{normal, choice, negated}
use Rattle.formula.specs.Root.{Root, constraint, fact, rule, root_formula, theory}
use Rattle.formula.specs.Plan.{Planned}
use Rattle.formula.specs.Support.{produces, supported}
use Rattle.formula.specs.Named.{LowestUnproduced}
use Rattle.formula.specs.Passes.{Within, below, passes}
use Rattle.formula.proofs.Producers.{unproduced_by, unsupported_by}
use Rattle.formula.proofs.Cases.{pair, among, chosen, doubled, denied}
use Rattle.formula.proofs.Fages.{stable_supported}
use Rattle.formula.proofs.Decide.{passes-supported, passes_stable}

-- ---- candidates with atoms below A

abbrev each_below : ℕ → List ℕ → Bool
each_below A [] = true
each_below A (x ∷ xs) = ltb x A && each_below A xs

among_within : (A : ℕ) (xs : List ℕ) → each_below A xs ≡ true → Within A (among xs)
among_within A [] e a i = absurd (false≢true i)
among_within A (x ∷ xs) e a i =
    ⊎_elim
    (λ p. rw (eqb-true a x p) (ltb-true x A (both_left _ (each_below A xs) e)))
    (λ p. among_within A xs (both_right (ltb x A) _ e) a p)
    (either (eqb a x) (among xs a) i)

module _ (A : ℕ) (xs : List Root) (c : List ℕ) (w : each_below A c ≡ true) where
  stable_by : (r : ℕ → ℕ) → Planned r xs → passes A (among c) xs ≡ true → Stable (among c) (theory xs)
  stable_by r f e = (passes_stable A (among c) xs (among_within A c w) r f).0 e

  unstable_by_lem : passes A (among c) xs ≡ false → Stable (among c) (theory xs) → ⊥
  unstable_by_lem e s = true≢false (sym ((passes-supported A (among c) xs (among_within A c w)).1 (stable_supported (among c) xs s)) ∙ e)

-- ---- atom 0 or not; atom 1 from atom 0

chosen-planned : Planned (λ a. a) chosen
unfolding class highest
chosen-planned = (tt, (record { clear = λ e. let z : ◌≡◌ {A = ℕ} 0 1 = cc in omega arith; lower = λ e. omega arith }, tt))

-- a rank equal to the head's is not enough
chosen_equal : Planned (λ a. 0) chosen → ⊥
unfolding class highest
chosen_equal p = let h : 0 < 0 = p.1.0.lower refl in omega arith

pub chosen_1_unstable : Stable (among (1 ∷ [])) (theory chosen) → ⊥
unfolding passes below theory of_list sat supported produces
chosen_1_unstable = unstable_by_lem 2 chosen (1 ∷ []) refl refl

-- its atom 1 can be taken out: the empty set satisfies the reduct under {1}
pub chosen_1_removable : LowestRemovable (among (1 ∷ [])) (map root_formula chosen) 1
unfolding of_list sat reduct without
chosen_1_removable =
    record {
      present = refl;
      removable = refl;
      before = λ b l i e. let z : b ≡ 0 = omega arith in false≢true (rw z at i);
    }

pub chosen_01_stable : Stable (among (0 ∷ 1 ∷ [])) (theory chosen)
unfolding passes below theory of_list sat supported produces
chosen_01_stable = stable_by 2 chosen (0 ∷ 1 ∷ []) refl (λ a. a) chosen-planned refl

chosen_0_unstable : Stable (among (0 ∷ [])) (theory chosen) → ⊥
unfolding passes below theory of_list sat supported produces
chosen_0_unstable = unstable_by_lem 2 chosen (0 ∷ []) refl refl

pub chosen_none_stable : Stable (among []) (theory chosen)
unfolding passes below theory of_list sat supported produces
chosen_none_stable = stable_by 2 chosen [] refl (λ a. a) chosen-planned refl

-- ---- atom 0 from its double negation: a Frozen body, so ranks 0 serve

-- of one rule into atom 0
frozen_planned : (b : Formula) → class b ≡ frozen → Planned (λ a. 0) (rule b (normal 0) ∷ [])
frozen_planned b e = (
  record {
    clear = λ o. let z : ◌≡◌ {A = ℕ} 0 1 = cc in omega arith;
    lower = λ p. let z : ◌≡◌ {A = ℕ} 0 1 = cc in omega arith;
  },
  tt,
)

doubled-planned : Planned (λ a. 0) doubled
unfolding class
doubled-planned = frozen_planned (implies (negated 0) falsum) refl

pub doubled_none_stable : Stable (among []) (theory doubled)
unfolding passes below theory of_list sat supported produces
doubled_none_stable = stable_by 1 doubled [] refl (λ a. 0) doubled-planned refl

pub doubled_0_stable : Stable (among (0 ∷ [])) (theory doubled)
unfolding passes below theory of_list sat supported produces
doubled_0_stable = stable_by 1 doubled (0 ∷ []) refl (λ a. 0) doubled-planned refl

-- {0}: the empty set satisfies the roots, but not the reduct under {0}, so 0 cannot be taken out
doubled_0_needed : (all (without (among (0 ∷ [])) 0) (of_list (map root_formula doubled)) ≡ true) × (Removable (among (0 ∷ [])) (map root_formula doubled) 0 → ⊥)
unfolding of_list sat reduct without
doubled_0_needed = (refl, λ e. false≢true e)

-- ---- a choice in the other order; a denial of its atom

denied_none_stable : Stable (among []) (theory denied)
unfolding passes below theory of_list sat supported produces
denied_none_stable = stable_by 1 denied [] refl (λ a. 0) (tt, (tt, tt)) refl

denied_0_unstable : Stable (among (0 ∷ [])) (theory denied) → ⊥
unfolding passes below theory of_list sat supported produces
denied_0_unstable = unstable_by_lem 1 denied (0 ∷ []) refl refl

-- ---- no roots, one atom; the root False, no atoms

pub empty_none_stable : Stable (among []) (theory [])
unfolding passes below theory of_list sat supported
empty_none_stable = stable_by 1 [] [] refl (λ a. 0) tt refl

pub empty_0_unstable : Stable (among (0 ∷ [])) (theory []) → ⊥
unfolding passes below theory of_list sat supported
empty_0_unstable = unstable_by_lem 1 [] (0 ∷ []) refl refl

pub empty_0_removable : LowestRemovable (among (0 ∷ [])) [] 0
unfolding of_list sat reduct
empty_0_removable = record { present = refl; removable = refl; before = λ b l i e. omega arith }

false_unstable : Stable (among []) (theory (constraint ∷ [])) → ⊥
unfolding passes below theory of_list sat supported
false_unstable = unstable_by_lem 0 (constraint ∷ []) [] refl refl

-- ---- atom 0 from And of nothing, from Or of nothing: Frozen bodies, so ranks 0 serve

abbrev pub always : List Root
always = rule (conj nil) (normal 0) ∷ []

pub always_0_stable : Stable (among (0 ∷ [])) (theory always)
unfolding passes below theory of_list sat supported produces class
always_0_stable = stable_by 1 always (0 ∷ []) refl (λ a. 0) (frozen_planned (conj nil) refl) refl

abbrev pub never : List Root
never = rule (disj nil) (normal 0) ∷ []

pub never_none_stable : Stable (among []) (theory never)
unfolding passes below theory of_list sat supported produces class
never_none_stable = stable_by 1 never [] refl (λ a. 0) (frozen_planned (disj nil) refl) refl

pub never_0_unstable : Stable (among (0 ∷ [])) (theory never) → ⊥
unfolding passes below theory of_list sat supported produces
never_0_unstable = unstable_by_lem 1 never (0 ∷ []) refl refl

pub never_0_removable : LowestRemovable (among (0 ∷ [])) (map root_formula never) 0
unfolding of_list sat reduct without
never_0_removable = record { present = refl; removable = refl; before = λ b l i e. omega arith }

-- ---- atom 0 or not; atom 1 from And of atom 0 and And of nothing: a Positive body, so 1 is ranked above 0

abbrev pub nested : List Root
nested = fact (choice 0) ∷ rule (conj (pair (atom 0) (conj nil))) (normal 1) ∷ []

nested_planned : Planned (λ a. a) nested
unfolding class highest
nested_planned = (tt, (record { clear = λ e. let z : ◌≡◌ {A = ℕ} 0 1 = cc in omega arith; lower = λ e. omega arith }, tt))

pub nested_1_unstable : Stable (among (1 ∷ [])) (theory nested) → ⊥
unfolding passes below theory of_list sat supported produces
nested_1_unstable = unstable_by_lem 2 nested (1 ∷ []) refl refl

pub nested_01_stable : Stable (among (0 ∷ 1 ∷ [])) (theory nested)
unfolding passes below theory of_list sat supported produces
nested_01_stable = stable_by 2 nested (0 ∷ 1 ∷ []) refl (λ a. a) nested_planned refl

pub nested_none_stable : Stable (among []) (theory nested)
unfolding passes below theory of_list sat supported produces
nested_none_stable = stable_by 2 nested [] refl (λ a. a) nested_planned refl

-- ---- what the plan keeps out: supported models that are not stable

-- atom 0 from itself
abbrev circle : List Root
circle = rule (atom 0) (normal 0) ∷ []

circle_unplanned : (r : ℕ → ℕ) → Planned r circle → ⊥
unfolding class highest
circle_unplanned r p = omega (arith, p.0.lower refl)

circle-passes : passes 1 (among (0 ∷ [])) circle ≡ true
unfolding passes below theory of_list sat supported produces
circle-passes = refl

circle_unstable : Stable (among (0 ∷ [])) (theory circle) → ⊥
unfolding theory of_list sat reduct
circle_unstable s = s.minimal (among []) (record { within = λ a i. absurd (false≢true i); lost = 0; had = refl; hasn't = refl }) refl

-- {0, 1}: 1 is the lowest atom that no root produces; 0 is produced, and can be taken out all the same
circle_lower : LowestUnproduced (among (0 ∷ 1 ∷ [])) (map root_formula circle) 1 × Removable (among (0 ∷ 1 ∷ [])) (map root_formula circle) 0
unfolding supported produces of_list sat reduct without
circle_lower = (
  record {
    present = refl;
    unproduced = unproduced_by (among (0 ∷ 1 ∷ [])) 1 circle refl;
    before = λ b l i u. let z : b ≡ 0 = omega arith in true≢false (unsupported_by (among (0 ∷ 1 ∷ [])) 0 circle (rw z at u));
  },
  refl,
)

-- so without ranks the lowest atom that no root produces need not be the lowest that can be taken out
pub circle-not-lowest : LowestRemovable (among (0 ∷ 1 ∷ [])) (map root_formula circle) 1 → ⊥
circle-not-lowest w = w.before 0 (omega arith) refl circle_lower.1

-- atom 1; atom 0 from the implication of 0 by 1, an Opaque body
abbrev implied_0 : List Root
implied_0 = fact (normal 1) ∷ rule (implies (atom 1) (atom 0)) (normal 0) ∷ []

implied_0_unplanned : (r : ℕ → ℕ) → Planned r implied_0 → ⊥
unfolding class
implied_0_unplanned r p = p.1.0.clear refl

implied_0_passes : passes 2 (among (0 ∷ 1 ∷ [])) implied_0 ≡ true
unfolding passes below theory of_list sat supported produces
implied_0_passes = refl

implied_0_unstable : Stable (among (0 ∷ 1 ∷ [])) (theory implied_0) → ⊥
unfolding theory of_list sat reduct
implied_0_unstable s = s.minimal (among (1 ∷ [])) (record { within = λ a. or_right (eqb a 0); lost = 0; had = refl; hasn't = refl }) refl

-- C5: atom 1 from atom 2, 2 from 1, 0 from 1
abbrev pub turning : List Root
turning = rule (atom 2) (normal 1) ∷ rule (atom 1) (normal 2) ∷ rule (atom 1) (normal 0) ∷ []

turning_unplanned : (r : ℕ → ℕ) → Planned r turning → ⊥
unfolding class highest
turning_unplanned r p = omega (arith, p.0.lower refl, p.1.0.lower refl)

pub turning_none_stable : Stable (among []) (theory turning)
unfolding theory of_list sat reduct
turning_none_stable = record { model = refl; minimal = λ J w s. false≢true w.had }

turning_all_passes : passes 3 (among (0 ∷ 1 ∷ 2 ∷ [])) turning ≡ true
unfolding passes below theory of_list sat supported produces
turning_all_passes = refl

pub turning_all_unstable : Stable (among (0 ∷ 1 ∷ 2 ∷ [])) (theory turning) → ⊥
unfolding theory of_list sat reduct
turning_all_unstable s = s.minimal (among []) (record { within = λ a i. absurd (false≢true i); lost = 0; had = refl; hasn't = refl }) refl

-- C6: atom 2 from the implication of 1 by 0, an Opaque body
abbrev pub implied_2 : List Root
implied_2 = rule (implies (atom 0) (atom 1)) (normal 2) ∷ []

implied_2_unplanned : (r : ℕ → ℕ) → Planned r implied_2 → ⊥
unfolding class
implied_2_unplanned r p = p.0.clear refl

pub implied_2_stable : Stable (among (2 ∷ [])) (theory implied_2)
unfolding theory of_list sat reduct
implied_2_stable =
    record {
      model = refl;
      minimal = λ J w s.
          let e : w.lost ≡ 2 = ⊎_elim (λ p. eqb-true w.lost 2 p) (λ p. absurd (false≢true p)) (either (eqb w.lost 2) false w.had) in
          true≢false (sym (both_left (J 2) true s) ∙ (rw e at w.hasn't));
    }
