-- The roots that a plan admits, and the theory that they make.
-- Assumes nothing.
use Rattle.std.specs.Prelude.{List, map}
use Rattle.formula.specs.Formula.{Formula, Formulas, falsum, implies, of_list}
use Rattle.formula.specs.Head.{Head, head_formula}

-- False; a body that must not hold; a head without body; a head that follows from a body
pub data Root : Type 0 where
  constraint : Root
  denial : Formula → Root
  fact : Head → Root
  rule : Formula → Head → Root

abbrev pub root_formula : Root → Formula
root_formula constraint = falsum
root_formula (denial b) = implies b falsum
root_formula (fact h) = head_formula h
root_formula (rule b h) = implies b (head_formula h)

unfoldable pub theory : List Root → Formulas
theory xs = of_list (map root_formula xs)
