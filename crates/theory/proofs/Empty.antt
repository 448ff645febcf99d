-- And and Or of nothing in lent tables, which admission refuses: their truth, class and formula, and where the next span would begin.
-- Assumes nothing.
use Prim.Native.Nat.{ℕ}
use native.Mathlib.Omega.{arith}
use mathlib.Core.Path.{◌≡◌, refl}
use mathlib.Core.Bool.{Bool, true, false}
use mathlib.Core.List.{List}
use Rattle.formula.specs.Formula.{Formula, conj, disj, nil, of_list}
use Rattle.formula.specs.Satisfaction.{Interpretation}
use Rattle.formula.specs.Class.{Class, frozen}
use Rattle.theory.specs.Node.{span}
use Rattle.theory.specs.NodeFormula.{node_formula}
use Rattle.theory.specs.NodeTruth.{all_true, any_true, node_truth}
use Rattle.theory.specs.NodeClass.{joined, node_class}
use Rattle.theory.specs.Admission.{span_end}
use Rattle.theory.specs.declared.Node.TheVariants.{And, Or}

module _ (I : Interpretation) (nodes operands : List ℕ) (v : ℕ → Bool) (c : ℕ → Class) (f : ℕ → Formula) (s : ℕ) where
  pub empty_and : (node_truth I operands v (And s 0) ≡ true) × (node_class nodes operands c (And s 0) ≡ frozen) × (node_formula operands f (And s 0) ≡ conj nil)
  unfolding node_truth node_class node_formula span all_true joined of_list
  empty_and = (refl, refl, refl)

  pub empty_or : (node_truth I operands v (Or s 0) ≡ false) × (node_class nodes operands c (Or s 0) ≡ frozen) × (node_formula operands f (Or s 0) ≡ disj nil)
  unfolding node_truth node_class node_formula span any_true joined of_list
  empty_or = (refl, refl, refl)

-- the next span begins where its own does
pub empty_ends : (start s : ℕ) → (span_end (And s 0) start ≡ start) × (span_end (Or s 0) start ≡ start)
empty_ends start s = (omega arith, omega arith)
