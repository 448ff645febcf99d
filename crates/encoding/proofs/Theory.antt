-- The tables of a file's values hold the theory that these values say.
-- Assumes nothing.
use Prim.Native.Nat.{ℕ}
use mathlib.Core.Path.{◌≡◌, refl, sym, ap, fun_ext, ◌∙◌}
use mathlib.Core.List.{List, map-id, flat_map}
use lib.ListN.{length, get_or, take}
use lib.Seq.{take-length}
use Rattle.base.specs.Rising.{rising, rising-map}
use Rattle.formula.specs.Formula.{Formula, falsum}
use Rattle.theory.specs.Node.{node_at}
use Rattle.theory.specs.NodeFormula.{node_formula, node_formulas, formula, theory_of}
use Rattle.theory.specs.declared.Node as view
use Rattle.theory.specs.declared.Node.TheVariants as views
use Rattle.encoding.specs.Value.{Node, False, TheoryFile}
use Rattle.encoding.specs.Held.{operand_entries, node_table, contents_of, counts_of}
use Rattle.encoding.specs.Theory.{formula_of, formulas_of, formula_at, theory}
use Rattle.encoding.proofs.Values.{value_of, node_held}

-- a node of the tables has the formula of its value
value-formula : (operands : List ℕ) (g : ℕ → Formula) (v : view.Node) → node_formula operands g v ≡ formula_of g (value_of operands v)
unfolding node_formula formula_of value_of
value-formula operands g (views.Atom a) = refl
value-formula operands g views.False = refl
value-formula operands g (views.Implies l r) = refl
value-formula operands g (views.And s c) = refl
value-formula operands g (views.Or s c) = refl
value-formula operands g views.Unknown = refl

formulas_held : (ns : List Node) → node_formulas (node_table 0 ns) (flat_map operand_entries ns) (length ns) ≡ formulas_of ns
unfolding node_formulas formulas_of
formulas_held ns =
    let os = flat_map operand_entries ns in
    sym (map-id (rising falsum (λ g k. node_formula os g (node_at (node_table 0 ns) k)) (length ns)))
    ∙ rising-map (λ x. x) falsum (λ g k. node_formula os g (node_at (node_table 0 ns) k)) (λ g k. formula_of g (get_or ns k False)) (length ns)
    (λ k l. value-formula os _ (node_at (node_table 0 ns) k) ∙ ap (formula_of _) (node_held ns k l))

module _ (f : TheoryFile) where
  -- each node has its formula
  pub theory-held : formula (counts_of f) (contents_of f).nodes (contents_of f).operands ≡ formula_at f
  unfolding formula formula_at counts_of contents_of
  theory-held = fun_ext (λ k. ap (λ fs. get_or fs k falsum) (formulas_held f.nodes))

  -- the root table is the roots
  pub roots_held : take (counts_of f).roots (contents_of f).roots ≡ f.roots
  unfolding counts_of contents_of
  roots_held = take-length f.roots

  -- the theory of the tables is that of the values
  pub root_formulas_held : theory_of (counts_of f) (contents_of f).nodes (contents_of f).operands (contents_of f).roots ≡ theory f
  unfolding theory
  root_formulas_held = rw (theory-held, roots_held)
