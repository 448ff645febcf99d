-- Propositional formulas, with And and Or over lists of operands.
-- Assumes nothing.
use Rattle.std.specs.Prelude.{ℕ, List, [], ◌∷◌}

mutual
  pub data Formula : Type 0 where
    atom : ℕ → Formula
    falsum : Formula
    implies : Formula → Formula → Formula
    conj : Formulas → Formula
    disj : Formulas → Formula

  pub data Formulas : Type 0 where
    nil : Formulas
    cons : Formula → Formulas → Formulas

unfoldable pub of_list : List Formula → Formulas
of_list [] = nil
of_list (f ∷ fs) = cons f (of_list fs)
