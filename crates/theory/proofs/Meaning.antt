-- The truth, class and highest rank that a rising pass computes are those of the node's formula.
-- Assumes nothing.
use Prim.Native.Nat.{ℕ, ◌<◌, ◌≤◌}
use native.Mathlib.Omega.{arith}
use mathlib.Core.Path.{◌≡◌, refl, ap, ap₂, sym, ◌∙◌}
use mathlib.Core.Bool.{false}
use mathlib.Core.List.{List, [], ◌∷◌, map}
use lib.ListN.{get_or, get_or-map}
use Rattle.base.specs.Each.{map_agree}
use Rattle.base.specs.Rising.{rising, rising_at, rising_stays, rising_step, rising-map}
use Rattle.formula.specs.Formula.{Formula, falsum, implies, conj, disj, of_list}
use Rattle.formula.specs.Satisfaction.{Interpretation, sat, all, any}
use Rattle.formula.specs.Class.{frozen, class, classes, is_falsum}
use Rattle.formula.specs.Rank.{highest, highests}
use Rattle.theory.specs.Node.{node_at, span}
use Rattle.theory.specs.Admission.{span_start}
use Rattle.theory.specs.WellFormed.{NodeFormed, WellFormed}
use Rattle.theory.specs.NodeFormula.{node_formula, node_formulas, formula}
use Rattle.theory.specs.NodeTruth.{all_true, any_true, node_truth, node_truths}
use Rattle.theory.specs.NodeClass.{is_false, joined, node_class, node_classes}
use Rattle.theory.specs.NodeRank.{greatest, node_highest, node_highests}
use Rattle.theory.specs.declared.Counts.{Counts}
use Rattle.theory.specs.declared.Node.{Node}
use Rattle.theory.specs.declared.Node.TheVariants.{Atom, False, Implies, And, Or, Unknown}

-- ---- truth

all_of : (I : Interpretation) (f : ℕ → Formula) (xs : List ℕ) → all I (of_list (map f xs)) ≡ all_true (map (λ o. sat I (f o)) xs)
unfolding all of_list all_true
all_of I f [] = refl
all_of I f (x ∷ xs) = rw (all_of I f xs)

any_of : (I : Interpretation) (f : ℕ → Formula) (xs : List ℕ) → any I (of_list (map f xs)) ≡ any_true (map (λ o. sat I (f o)) xs)
unfolding any of_list any_true
any_of I f [] = refl
any_of I f (x ∷ xs) = rw (any_of I f xs)

pub truth_of : (I : Interpretation) (operands : List ℕ) (f : ℕ → Formula) (node : Node) → sat I (node_formula operands f node) ≡ node_truth I operands (λ o. sat I (f o)) node
unfolding node_formula node_truth sat
truth_of I operands f (Atom a) = refl
truth_of I operands f False = refl
truth_of I operands f (Implies l r) = refl
truth_of I operands f (And s c) = all_of I f (span operands s c)
truth_of I operands f (Or s c) = any_of I f (span operands s c)
truth_of I operands f Unknown = refl

-- of any tables
pub truths_are : (I : Interpretation) (nodes operands : List ℕ) (n : ℕ) → map (sat I) (node_formulas nodes operands n) ≡ node_truths I nodes operands n
unfolding node_formulas node_truths sat
truths_are I nodes operands n =
    rising-map (sat I) falsum (λ f k. node_formula operands f (node_at nodes k)) (λ v k. node_truth I operands v (node_at nodes k)) n
    (λ k l. truth_of I operands _ (node_at nodes k))

-- ---- class

classes_of_lem : (f : ℕ → Formula) (xs : List ℕ) → classes (of_list (map f xs)) ≡ joined (map (λ o. class (f o)) xs)
unfolding classes of_list joined
classes_of_lem f [] = refl
classes_of_lem f (x ∷ xs) = rw (classes_of_lem f xs)

falsum_of : (operands : List ℕ) (f : ℕ → Formula) (node : Node) → (node ≡ Unknown → ⊥) → is_falsum (node_formula operands f node) ≡ is_false node
unfolding node_formula
falsum_of operands f (Atom a) known = refl
falsum_of operands f False known = refl
falsum_of operands f (Implies l r) known = refl
falsum_of operands f (And s c) known = refl
falsum_of operands f (Or s c) known = refl
falsum_of operands f Unknown known = absurd (known refl)

class_of : (nodes operands : List ℕ) (f : ℕ → Formula) (t : Counts) (start k : ℕ) (node : Node) → NodeFormed t operands start k node
    → ((o : ℕ) → o < k → is_falsum (f o) ≡ is_false (node_at nodes o))
    → class (node_formula operands f node) ≡ node_class nodes operands (λ o. class (f o)) node
unfolding node_formula node_class class
class_of nodes operands f t start k (Atom a) w h = refl
class_of nodes operands f t start k False w h = refl
class_of nodes operands f t start k (Implies l r) w h = rw (h r w.1)
class_of nodes operands f t start k (And s c) w h = classes_of_lem f (span operands s c)
class_of nodes operands f t start k (Or s c) w h = classes_of_lem f (span operands s c)
class_of nodes operands f t start k Unknown w h = absurd w

-- ---- highest rank

highests_of : (rank : ℕ → ℕ) (f : ℕ → Formula) (xs : List ℕ) → highests rank (of_list (map f xs)) ≡ greatest (map (λ o. highest rank (f o)) xs)
unfolding highests of_list greatest
highests_of rank f [] = refl
highests_of rank f (x ∷ xs) = rw (highests_of rank f xs)

highest_of : (rank : ℕ → ℕ) (operands : List ℕ) (f : ℕ → Formula) (node : Node)
    → highest rank (node_formula operands f node) ≡ node_highest rank operands (class (node_formula operands f node)) (λ o. highest rank (f o)) node
unfolding node_formula node_highest highest
highest_of rank operands f (Atom a) = refl
highest_of rank operands f False = refl
highest_of rank operands f (Implies l r) = refl
highest_of rank operands f (And s c) = rw (highests_of rank f (span operands s c))
highest_of rank operands f (Or s c) = rw (highests_of rank f (span operands s c))
highest_of rank operands f Unknown = refl

-- ---- the tables of a well-formed theory

module _ (t : Counts) (nodes operands roots : List ℕ) (well : WellFormed t nodes operands roots) where
  make : (ℕ → Formula) → ℕ → Formula
  make f k = node_formula operands f (node_at nodes k)

  known : (start k : ℕ) (node : Node) → NodeFormed t operands start k node → node ≡ Unknown → ⊥
  known start k (Atom a) w e = let z : ◌≡◌ {A = ℕ} 0 1 = cc in omega arith
  known start k False w e = let z : ◌≡◌ {A = ℕ} 0 1 = cc in omega arith
  known start k (Implies l r) w e = let z : ◌≡◌ {A = ℕ} 0 1 = cc in omega arith
  known start k (And s c) w e = let z : ◌≡◌ {A = ℕ} 0 1 = cc in omega arith
  known start k (Or s c) w e = let z : ◌≡◌ {A = ℕ} 0 1 = cc in omega arith
  known start k Unknown w e = w

  formula_local : (start k : ℕ) (node : Node) → NodeFormed t operands start k node → (f g : ℕ → Formula) → ((o : ℕ) → o < k → f o ≡ g o)
      → node_formula operands f node ≡ node_formula operands g node
  unfolding node_formula
  formula_local start k (Atom a) w f g h = refl
  formula_local start k False w f g h = refl
  formula_local start k (Implies l r) w f g h = ap₂ implies (h l w.0) (h r w.1)
  formula_local start k (And s c) w f g h = ap (λ x. conj (of_list x)) (map_agree (λ o. o < k) f g (span operands s c) w.lower h)
  formula_local start k (Or s c) w f g h = ap (λ x. disj (of_list x)) (map_agree (λ o. o < k) f g (span operands s c) w.lower h)
  formula_local start k Unknown w f g h = absurd w

  -- each node's formula is made of those of its operands
  pub formula_step : (k : ℕ) → k < t.nodes → formula t nodes operands k ≡ node_formula operands (formula t nodes operands) (node_at nodes k)
  unfolding formula node_formulas make
  formula_step k l = rising_step falsum make t.nodes k l (λ f g h. formula_local (span_start nodes k) k (node_at nodes k) (well.node k l) f g h)

  falsum_at : (k : ℕ) → k < t.nodes → is_falsum (formula t nodes operands k) ≡ is_false (node_at nodes k)
  falsum_at k l = ap is_falsum (formula_step k l) ∙ falsum_of operands _ (node_at nodes k) (known (span_start nodes k) k (node_at nodes k) (well.node k l))

  pub classes_are : (n : ℕ) → n ≤ t.nodes → map class (node_formulas nodes operands n) ≡ node_classes nodes operands n
  unfolding formula node_formulas node_classes make class
  classes_are n m =
      rising-map class falsum make (λ c k. node_class nodes operands c (node_at nodes k)) n
      (λ k l. class_of nodes operands _ t (span_start nodes k) k (node_at nodes k) (well.node k (omega arith))
      (λ o q. ap is_falsum (sym (rising_stays falsum make t.nodes k o (omega arith) q)) ∙ falsum_at o (omega arith)))

  pub highests_are : (rank : ℕ → ℕ) → map (highest rank) (node_formulas nodes operands t.nodes) ≡ node_highests rank nodes operands t.nodes
  unfolding node_formulas node_highests make class highest
  highests_are rank =
      rising-map (highest rank) falsum make (λ h k. node_highest rank operands (get_or (node_classes nodes operands t.nodes) k frozen) h (node_at nodes k)) t.nodes
      (λ k l. highest_of rank operands _ (node_at nodes k) ∙ ap (λ c. node_highest rank operands c (λ o. highest rank (get_or (rising falsum make k) o falsum)) (node_at nodes k)) (class_there k l))
    where
      class_there : (k : ℕ) → k < t.nodes
          → class (make (λ o. get_or (rising falsum make k) o falsum) k) ≡ get_or (node_classes nodes operands t.nodes) k frozen
      class_there k l =
          ap class (sym (rising_at falsum make t.nodes k l))
          ∙ sym (get_or-map class (rising falsum make t.nodes) k falsum)
          ∙ ap (λ cs. get_or cs k frozen) (classes_are t.nodes (omega arith))

  -- a node's class and highest rank are made of those of its operands
  pub class_step : (k : ℕ) → k < t.nodes → class (formula t nodes operands k) ≡ node_class nodes operands (λ o. class (formula t nodes operands o)) (node_at nodes k)
  class_step k l =
      ap class (formula_step k l)
      ∙ class_of nodes operands (formula t nodes operands) t (span_start nodes k) k (node_at nodes k) (well.node k l) (λ o q. falsum_at o (omega arith))

  pub highest_step : (rank : ℕ → ℕ) (k : ℕ) → k < t.nodes
      → highest rank (formula t nodes operands k)
      ≡ node_highest rank operands (class (formula t nodes operands k)) (λ o. highest rank (formula t nodes operands o)) (node_at nodes k)
  highest_step rank k l =
      ap (highest rank) (formula_step k l) ∙ highest_of rank operands (formula t nodes operands) (node_at nodes k)
      ∙ ap (λ c. node_highest rank operands c (λ o. highest rank (formula t nodes operands o)) (node_at nodes k)) (ap class (sym (formula_step k l)))

  -- so is its truth
  pub truth_step : (I : Interpretation) (k : ℕ) → k < t.nodes
      → sat I (formula t nodes operands k) ≡ node_truth I operands (λ o. sat I (formula t nodes operands o)) (node_at nodes k)
  truth_step I k l = ap (sat I) (formula_step k l) ∙ truth_of I operands (formula t nodes operands) (node_at nodes k)

  -- node by node
  pub class_at : (k : ℕ) → class (formula t nodes operands k) ≡ get_or (node_classes nodes operands t.nodes) k frozen
  unfolding formula class
  class_at k = sym (get_or-map class (node_formulas nodes operands t.nodes) k falsum) ∙ ap (λ cs. get_or cs k frozen) (classes_are t.nodes (omega arith))

  pub highest_at : (rank : ℕ → ℕ) (k : ℕ) → highest rank (formula t nodes operands k) ≡ get_or (node_highests rank nodes operands t.nodes) k 0
  unfolding formula highest
  highest_at rank k = sym (get_or-map (highest rank) (node_formulas nodes operands t.nodes) k falsum) ∙ ap (λ hs. get_or hs k 0) (highests_are rank)

pub truth_at_lem : (I : Interpretation) (t : Counts) (nodes operands : List ℕ) (k : ℕ) → sat I (formula t nodes operands k) ≡ get_or (node_truths I nodes operands t.nodes) k false
unfolding formula sat
truth_at_lem I t nodes operands k = sym (get_or-map (sat I) (node_formulas nodes operands t.nodes) k falsum) ∙ ap (λ vs. get_or vs k false) (truths_are I nodes operands t.nodes)
