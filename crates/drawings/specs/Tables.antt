-- The tables of drawings: document 01's example and C5 to C7.
-- Assumes nothing.
use Rattle.std.specs.Prelude.{ℕ, List, [], ◌∷◌}
use Rattle.theory.specs.declared.Counts.{Counts}

abbrev pub counts : ℕ → ℕ → ℕ → ℕ → Counts
counts atoms nodes operands roots = record { stamp = 7; atoms = atoms; nodes = nodes; operands = operands; roots = roots }

-- NA 0; NA 1; NI 0 1; NF; NI 0 3; ND 2 0 4; RT 5; RT 2
unfoldable pub example_nodes : List ℕ
example_nodes = 0 ∷ 0 ∷ 0 ∷ 0 ∷ 1 ∷ 0 ∷ 2 ∷ 0 ∷ 1 ∷ 1 ∷ 0 ∷ 0 ∷ 2 ∷ 0 ∷ 3 ∷ 4 ∷ 0 ∷ 2 ∷ []

unfoldable pub example_operands : List ℕ
example_operands = 0 ∷ 4 ∷ []

unfoldable pub example_roots : List ℕ
example_roots = 5 ∷ 2 ∷ []

-- three atoms, rules 1 from 2, 2 from 1, 0 from 1
unfoldable pub five_nodes : List ℕ
five_nodes = 0 ∷ 0 ∷ 0 ∷ 0 ∷ 1 ∷ 0 ∷ 0 ∷ 2 ∷ 0 ∷ 2 ∷ 2 ∷ 1 ∷ 2 ∷ 1 ∷ 2 ∷ 2 ∷ 1 ∷ 0 ∷ []

unfoldable pub five_roots : List ℕ
five_roots = 3 ∷ 4 ∷ 5 ∷ []

-- Atom 0, Atom 1, Implies(0, 1), Atom 2, Implies(2, 3), root 4
unfoldable pub six_nodes : List ℕ
six_nodes = 0 ∷ 0 ∷ 0 ∷ 0 ∷ 1 ∷ 0 ∷ 2 ∷ 0 ∷ 1 ∷ 0 ∷ 2 ∷ 0 ∷ 2 ∷ 2 ∷ 3 ∷ []

unfoldable pub six_roots : List ℕ
six_roots = 4 ∷ []

-- atom 0 from its double negation: Atom 0, False, Implies(0, 1), Implies(2, 1), Implies(3, 0), root 4
unfoldable pub seven_nodes : List ℕ
seven_nodes = 0 ∷ 0 ∷ 0 ∷ 1 ∷ 0 ∷ 0 ∷ 2 ∷ 0 ∷ 1 ∷ 2 ∷ 2 ∷ 1 ∷ 2 ∷ 3 ∷ 0 ∷ []

unfoldable pub seven_roots : List ℕ
seven_roots = 4 ∷ []
