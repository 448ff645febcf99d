-- Worked cases of the definitions, by computation.
-- Assumes nothing.
use Prim.Native.Nat.{ℕ, ◌+◌}
use native.Mathlib.Omega.{arith}
use mathlib.Core.Path.{◌≡◌, refl}
use mathlib.Core.Bool.{true, false, ◌||◌}
use mathlib.Core.List.{List, [], ◌∷◌, map}
use lib.Dec.{eqb}
use Rattle.formula.specs.Formula.{Formula, Formulas, atom, falsum, implies, conj, disj, nil, cons, of_list}
use Rattle.formula.specs.Satisfaction.{Interpretation, sat, all}
use Rattle.formula.specs.Reduct.{reduct}
use Rattle.formula.specs.Class.{positive, frozen, opaque, class}
use Rattle.formula.specs.Rank.{highest}
use Rattle.formula.specs.Head.{normal, choice, flipped, negated}
use Rattle.formula.specs.Root.{Root, constraint, denial, fact, rule, theory}
use Rattle.formula.specs.Support.{produces, supported}
use Rattle.formula.specs.Passes.{below, passes}

abbrev pub pair : Formula → Formula → Formulas
pair f g = cons f (cons g nil)

-- a candidate, as a list of atoms
abbrev pub among : List ℕ → Interpretation
among [] a = false
among (x ∷ xs) a = eqb a x || among xs a

-- ---- formulas

-- an Implies to False is Frozen, any other Opaque; And and Or over them
drawn_classes : map class
    (negated 0 ∷ implies (negated 0) falsum ∷ implies (atom 0) (atom 1)
    ∷ conj (pair (atom 0) (negated 1)) ∷ disj (pair (negated 0) (atom 1)) ∷ conj (pair (negated 0) (negated 1))
    ∷ conj (pair (atom 0) (implies (atom 0) (atom 1))) ∷ disj (pair (implies (atom 0) (atom 1)) (negated 0)) ∷ [])
    ≡ frozen ∷ frozen ∷ opaque ∷ positive ∷ positive ∷ frozen ∷ opaque ∷ opaque ∷ []
unfolding class
drawn_classes = refl

-- a negated atom adds nothing to the highest rank
negated_unranked : (r : ℕ → ℕ) → highest r (conj (pair (atom 0) (negated 1))) ≡ r 0
unfolding highest class
negated_unranked r = omega arith

nested_ranks : highest (λ a. 7 + a) (disj (pair (atom 0) (conj (pair (atom 2) (negated 5))))) ≡ 9
unfolding highest class
nested_ranks = refl

-- the reduct under {0} of what is false
false_cut : map (reduct (among (0 ∷ []))) (atom 1 ∷ implies (atom 0) (atom 1) ∷ conj (pair (atom 0) (atom 1)) ∷ disj (pair (negated 0) (atom 1)) ∷ [])
    ≡ falsum ∷ falsum ∷ falsum ∷ falsum ∷ []
unfolding reduct sat
false_cut = refl

-- and of what is true: the largest false parts alone are cut
true_kept : map (reduct (among (0 ∷ [])))
    (atom 0 ∷ implies (negated 0) (atom 1) ∷ conj (pair (atom 0) (negated 1)) ∷ disj (pair (atom 0) (conj (pair (atom 0) (atom 1)))) ∷ [])
    ≡ atom 0 ∷ implies falsum falsum ∷ conj (pair (atom 0) (implies falsum falsum)) ∷ disj (pair (atom 0) falsum) ∷ []
unfolding reduct sat
true_kept = refl

-- ---- atom 0 or not; atom 1 from atom 0

abbrev pub chosen : List Root
chosen = fact (choice 0) ∷ rule (atom 0) (normal 1) ∷ []

chosen-theory : theory chosen ≡ pair (disj (pair (atom 0) (implies (atom 0) falsum))) (implies (atom 0) (atom 1))
unfolding theory of_list
chosen-theory = refl

-- {1}: a model, its atom not supported
chosen_1 : (all (among (1 ∷ [])) (theory chosen) ≡ true) × (supported (among (1 ∷ [])) 1 chosen ≡ false)
unfolding theory of_list sat supported produces
chosen_1 = (refl, refl)

-- {0}: no model, the second root is false
chosen_0 : map (sat (among (0 ∷ []))) (disj (pair (atom 0) (negated 0)) ∷ implies (atom 0) (atom 1) ∷ []) ≡ true ∷ false ∷ []
unfolding sat
chosen_0 = refl

chosen-passes : map (λ c. passes 2 (among c) chosen) ((1 ∷ []) ∷ (0 ∷ 1 ∷ []) ∷ (0 ∷ []) ∷ [] ∷ []) ≡ false ∷ true ∷ false ∷ true ∷ []
unfolding passes below theory of_list sat supported produces
chosen-passes = refl

-- ---- atom 0 from its double negation

abbrev pub doubled : List Root
doubled = rule (implies (negated 0) falsum) (normal 0) ∷ []

doubled-passes : map (λ c. passes 1 (among c) doubled) ([] ∷ (0 ∷ []) ∷ []) ≡ true ∷ true ∷ []
unfolding passes below theory of_list sat supported produces
doubled-passes = refl

-- ---- a choice in the other order; a denial of its atom

abbrev pub denied : List Root
denied = fact (flipped 0) ∷ denial (atom 0) ∷ []

denied-theory : theory denied ≡ pair (disj (pair (implies (atom 0) falsum) (atom 0))) (implies (atom 0) falsum)
unfolding theory of_list
denied-theory = refl

denied-passes : map (λ c. passes 1 (among c) denied) ([] ∷ (0 ∷ []) ∷ []) ≡ true ∷ false ∷ []
unfolding passes below theory of_list sat supported produces
denied-passes = refl

-- ---- no roots, one atom; the root False, no atoms

empty_passes : map (λ c. passes 1 (among c) []) ([] ∷ (0 ∷ []) ∷ []) ≡ true ∷ false ∷ []
unfolding passes below theory of_list sat supported
empty_passes = refl

false_passes : all (among []) (theory (constraint ∷ [])) ≡ false
unfolding theory of_list sat
false_passes = refl
