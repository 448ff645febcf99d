-- The formula of a node, from those of lower nodes; the theory of the tables.
-- Assumes nothing.
use Rattle.std.specs.Prelude.{ℕ, List, map, get_or, take}
use Rattle.base.specs.Rising.{rising}
use Rattle.formula.specs.Formula.{Formula, atom, falsum, implies, conj, disj, of_list}
use Rattle.theory.specs.Node.{node_at, span}
use Rattle.theory.specs.declared.Counts.{Counts}
use Rattle.theory.specs.declared.Node.{Node}
use Rattle.theory.specs.declared.Node.TheVariants.{Atom, False, Implies, And, Or, Unknown}

unfoldable pub node_formula : List ℕ → (ℕ → Formula) → Node → Formula
node_formula operands f (Atom a) = atom a
node_formula operands f False = falsum
node_formula operands f (Implies l r) = implies (f l) (f r)
node_formula operands f (And s c) = conj (of_list (map f (span operands s c)))
node_formula operands f (Or s c) = disj (of_list (map f (span operands s c)))
node_formula operands f Unknown = falsum

-- of the n first nodes
unfoldable pub node_formulas : List ℕ → List ℕ → ℕ → List Formula
node_formulas nodes operands n = rising falsum (λ f k. node_formula operands f (node_at nodes k)) n

unfoldable pub formula : Counts → List ℕ → List ℕ → ℕ → Formula
formula t nodes operands k = get_or (node_formulas nodes operands t.nodes) k falsum

-- the theory of the tables: the formulas of their roots, in order
abbrev pub theory_of : Counts → List ℕ → List ℕ → List ℕ → List Formula
theory_of t nodes operands roots = map (formula t nodes operands) (take t.roots roots)
