-- The verdict of demand 2 in Ferraris's terms: satisfaction of the roots' formulas, stable models, producers.
-- Assumes nothing.
use Rattle.std.specs.Prelude.{ℕ, ◌≡◌, ◌↔◌, true, false, List, get_or, take}
use Rattle.formula.specs.Formula.{Formula, of_list}
use Rattle.formula.specs.Satisfaction.{Interpretation, all}
use Rattle.formula.specs.Stable.{Stable}
use Rattle.formula.specs.Named.{FirstFalsified, LowestUnproduced}
use Rattle.theory.specs.NodeFormula.{theory_of}
use Rattle.theory.specs.declared.Counts.{Counts}
use Rattle.kept.specs.Verdict.{Verdict, not_model, residual, stable}

-- v is the verdict on the candidate I of the roots with these formulas, which stand at these nodes
pub record Decides (nodes : List ℕ) (roots : List Formula) (I : Interpretation) (v : Verdict) : Type 0 where
  -- not-model exactly if the candidate falsifies some root, and names the first such root by its node
  pub is_not_model : ((k : ℕ) × (v ≡ not_model k)) ↔ (all I (of_list roots) ≡ false)
  pub names_root : (k : ℕ) → (v ≡ not_model k) ↔ ((r : ℕ) × FirstFalsified I roots r × (get_or nodes r 0 ≡ k))
  -- residual exactly if it satisfies all roots and is not stable, and names the lowest of its atoms that no root produces
  pub model_not_stable : ((a : ℕ) × (v ≡ residual a)) ↔ ((all I (of_list roots) ≡ true) × (Stable I (of_list roots) → ⊥))
  pub names_atom : (a : ℕ) → (v ≡ residual a) ↔ ((all I (of_list roots) ≡ true) × LowestUnproduced I roots a)
  -- stable exactly if it is a stable model
  pub stable_model : (v ≡ stable) ↔ Stable I (of_list roots)

-- of the theory in these tables
abbrev pub DecidesTheory : Counts → List ℕ → List ℕ → List ℕ → Interpretation → Verdict → Type 0
DecidesTheory t nodes operands roots I v = Decides (take t.roots roots) (theory_of t nodes operands roots) I v
