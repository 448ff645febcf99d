-- C1 to C9 of document 01 as facts about stable models: the theories of their tables as formulas, and what Ferraris's definition says of their candidates.
-- Assumes nothing.
use Prim.Native.Nat.{ℕ}
use mathlib.Core.Path.{◌≡◌, refl}
use mathlib.Core.List.{List, [], ◌∷◌}
use Rattle.base.specs.Each.{Each}
use Rattle.base.specs.Rising.{rising, extended}
use Rattle.formula.specs.Formula.{Formula, atom, falsum, implies, disj, of_list}
use Rattle.formula.specs.Satisfaction.{sat}
use Rattle.formula.specs.Head.{negated}
use Rattle.formula.specs.Root.{theory}
use Rattle.formula.proofs.Cases.{pair, among}
use Rattle.formula.proofs.Examples.{chosen_1_unstable, chosen_1_removable, chosen_01_stable, chosen_none_stable, doubled_none_stable, doubled_0_stable, empty_none_stable, empty_0_unstable, empty_0_removable, turning_none_stable, turning_all_unstable, implied_2_stable}
use Rattle.theory.specs.Node.{node_at, span}
use Rattle.theory.specs.NodeFormula.{node_formula, node_formulas, formula, theory_of}
use Rattle.theory.specs.declared.Counts.{Counts}
use Rattle.drawings.specs.Standing.{Standing, stable, unstable, unstable_by, no_model, Stands}
use Rattle.drawings.specs.Tables.{counts, example_nodes, example_operands, example_roots, five_nodes, five_roots, six_nodes, six_roots, seven_nodes, seven_roots}

-- tables, the formulas of their roots, and a candidate's atoms
pub record Fact : Type 0 where
  pub counts : Counts
  pub nodes : List ℕ
  pub operands : List ℕ
  pub roots : List ℕ
  pub formulas : List Formula
  pub candidate : List ℕ
  pub standing : Standing

-- the tables have that theory, and the candidate that standing
abbrev pub Holds : Fact → Type 0
Holds f = (theory_of f.counts f.nodes f.operands f.roots ≡ f.formulas) × Stands f.standing (among f.candidate) f.formulas

-- 0 or not 0, and 1 from 0
abbrev example : List ℕ → Standing → Fact
example c s =
    record {
      counts = counts 2 6 2 2;
      nodes = example_nodes;
      operands = example_operands;
      roots = example_roots;
      formulas = disj (pair (atom 0) (negated 0)) ∷ implies (atom 0) (atom 1) ∷ [];
      candidate = c;
      standing = s;
    }

-- 1 from 2, 2 from 1, 0 from 1
abbrev five : List ℕ → Standing → Fact
five c s =
    record {
      counts = counts 3 6 0 3;
      nodes = five_nodes;
      operands = [];
      roots = five_roots;
      formulas = implies (atom 2) (atom 1) ∷ implies (atom 1) (atom 2) ∷ implies (atom 1) (atom 0) ∷ [];
      candidate = c;
      standing = s;
    }

-- 2 from the implication of 1 by 0
abbrev six : List ℕ → Standing → Fact
six c s =
    record {
      counts = counts 3 5 0 1;
      nodes = six_nodes;
      operands = [];
      roots = six_roots;
      formulas = implies (implies (atom 0) (atom 1)) (atom 2) ∷ [];
      candidate = c;
      standing = s;
    }

-- 0 from its double negation
abbrev seven : List ℕ → Standing → Fact
seven c s =
    record {
      counts = counts 1 5 0 1;
      nodes = seven_nodes;
      operands = [];
      roots = seven_roots;
      formulas = implies (implies (negated 0) falsum) (atom 0) ∷ [];
      candidate = c;
      standing = s;
    }

-- no roots, one atom
abbrev eight : List ℕ → Standing → Fact
eight c s = record { counts = counts 1 0 0 0; nodes = []; operands = []; roots = []; formulas = []; candidate = c; standing = s }

-- the root False, no atoms
abbrev nine : List ℕ → Standing → Fact
nine c s = record { counts = counts 0 1 0 1; nodes = 1 ∷ 0 ∷ 0 ∷ []; operands = []; roots = 0 ∷ []; formulas = falsum ∷ []; candidate = c; standing = s }

-- C1 to C4; C5, whose plan is refused: a supported model is not stable; C6, whose plan is refused; C7; C8; C9
abbrev pub facts : List Fact
facts =
    example (1 ∷ []) (unstable_by 1) ∷ example (0 ∷ 1 ∷ []) stable ∷ example (0 ∷ []) no_model ∷ example [] stable
    ∷ five [] stable ∷ five (0 ∷ 1 ∷ 2 ∷ []) unstable
    ∷ six (2 ∷ []) stable ∷ six [] no_model
    ∷ seven [] stable ∷ seven (0 ∷ []) stable
    ∷ eight [] stable ∷ eight (0 ∷ []) (unstable_by 0)
    ∷ nine [] no_model ∷ []

pub facts_hold : Each Holds facts
unfolding example_nodes example_operands example_roots five_nodes five_roots six_nodes six_roots seven_nodes seven_roots formula node_formulas node_formula rising extended node_at span of_list sat theory
facts_hold = (
  (refl, (refl, chosen_1_unstable, chosen_1_removable)),
  (
    (refl, chosen_01_stable),
    (
      (refl, refl),
      (
        (refl, chosen_none_stable),
        (
          (refl, turning_none_stable),
          (
            (refl, (refl, turning_all_unstable)),
            (
              (refl, implied_2_stable),
              (
                (refl, refl),
                (
                  (refl, doubled_none_stable),
                  (
                    (refl, doubled_0_stable),
                    (
                      (refl, empty_none_stable),
                      (
                        (refl, (refl, empty_0_unstable, empty_0_removable)),
                        ((refl, refl), tt),
                      ),
                    ),
                  ),
                ),
              ),
            ),
          ),
        ),
      ),
    ),
  ),
)
