-- The theory that the values of a file say, as formulas.
-- Assumes nothing.
use Rattle.std.specs.Prelude.{ℕ, List, map, length, get_or}
use Rattle.base.specs.Rising.{rising}
use Rattle.formula.specs.Formula.{Formula, atom, falsum, implies, conj, disj, of_list}
use Rattle.encoding.specs.Value.{Node, Atom, False, Implies, And, Or, TheoryFile}

-- the formula of a node, from those of lower nodes
unfoldable pub formula_of : (ℕ → Formula) → Node → Formula
formula_of f (Atom a) = atom a
formula_of f False = falsum
formula_of f (Implies l r) = implies (f l) (f r)
formula_of f (And os) = conj (of_list (map f os))
formula_of f (Or os) = disj (of_list (map f os))

-- the formulas of the nodes in order, each from those before it
unfoldable pub formulas_of : List Node → List Formula
formulas_of nodes = rising falsum (λ f k. formula_of f (get_or nodes k False)) (length nodes)

-- the formula of node k
unfoldable pub formula_at : TheoryFile → ℕ → Formula
formula_at f k = get_or (formulas_of f.nodes) k falsum

-- the theory: the formulas of the roots in order
unfoldable pub theory : TheoryFile → List Formula
theory f = map (formula_at f) f.roots
