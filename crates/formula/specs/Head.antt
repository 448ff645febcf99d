-- The heads: an atom; a choice of an atom, which is that atom or its negation, in either order.
-- Assumes nothing.
use Rattle.std.specs.Prelude.{ℕ}
use Rattle.formula.specs.Formula.{Formula, atom, falsum, implies, disj, nil, cons}

pub data Head : Type 0 where
  normal choice flipped : ℕ → Head

abbrev pub head_atom : Head → ℕ
head_atom (normal a) = a
head_atom (choice a) = a
head_atom (flipped a) = a

abbrev pub negated : ℕ → Formula
negated a = implies (atom a) falsum

abbrev pub head_formula : Head → Formula
head_formula (normal a) = atom a
head_formula (choice a) = disj (cons (atom a) (cons (negated a) nil))
head_formula (flipped a) = disj (cons (negated a) (cons (atom a) nil))
