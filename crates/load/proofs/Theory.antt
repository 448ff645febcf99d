-- The theory in the tables that `load` leaves is the theory of the file, whatever stands behind it in them.
-- Assumes nothing.
use Rattle.std.specs.Prelude.{Ok}
use Prim.Native.Nat.{ℕ, ◌+◌, ◌<◌, ◌≤◌}
use native.Mathlib.Omega.{arith}
use mathlib.Core.Path.{◌≡◌, refl, sym, ap, fun_ext, ◌∙◌}
use mathlib.Core.List.{List, ◌++◌, map, map-id}
use lib.ListN.{get_or, take}
use lib.Seq.{take-append-le}
use Rattle.base.specs.Rising.{rising, rising-map}
use Rattle.formula.specs.Formula.{Formula, falsum, conj, disj, of_list}
use Rattle.theory.specs.Node.{node_at, span}
use Rattle.theory.specs.NodeFormula.{node_formula, node_formulas, formula}
use Rattle.theory.specs.Admission.{span_start}
use Rattle.theory.specs.WellFormed.{NodeFormed}
use Rattle.theory.specs.declared.Counts.{Counts}
use Rattle.theory.specs.declared.Node.{Node}
use Rattle.theory.specs.declared.Node.TheVariants.{Atom, False, Implies, And, Or, Unknown}
use Rattle.record.specs.declared.Stage.{Stage}
use Rattle.record.specs.Contents.{Contents}
use Rattle.record.specs.File.{sound, theory_file}
use Rattle.record.specs.declared.Summary.{Summary}
use Rattle.load.specs.Tables.{Tables, over, holding}
use Rattle.load.specs.Loading.{loading}
use Rattle.load.proofs.Formed.{Formed, node_front, span-front}
use Rattle.load.proofs.Admitted.{formed_whole, loaded_sound}

-- ---- with other words behind the tables

module _ (stage : Stage) (t : Counts) (ns xs os ys rs : List ℕ) (f : Formed stage t ns os rs) where
  node_at_lem : (k : ℕ) → k < t.nodes → node_at (ns ++ xs) k ≡ node_at ns k
  node_at_lem = node_front t t ns xs os ys rs rs refl (omega arith) (omega arith) f.nodes_long f.operands_long f.roots_long

  span_at : (s c : ℕ) → s + c ≤ t.operands → span (os ++ ys) s c ≡ span os s c
  span_at = span-front t t ns xs os ys rs rs refl (omega arith) (omega arith) f.nodes_long f.operands_long f.roots_long

  node_formula_lem : (g : ℕ → Formula) (start k : ℕ) (n : Node) → NodeFormed t os start k n → node_formula (os ++ ys) g n ≡ node_formula os g n
  unfolding node_formula
  node_formula_lem g start k (Atom a) w = refl
  node_formula_lem g start k False w = refl
  node_formula_lem g start k (Implies l r) w = refl
  node_formula_lem g start k (And s c) w = ap (λ l. conj (of_list (map g l))) (span_at s c w.fits)
  node_formula_lem g start k (Or s c) w = ap (λ l. disj (of_list (map g l))) (span_at s c w.fits)
  node_formula_lem g start k Unknown w = refl

  formulas_front : node_formulas (ns ++ xs) (os ++ ys) t.nodes ≡ node_formulas ns os t.nodes
  unfolding node_formulas
  formulas_front =
      sym (map-id (rising falsum (λ g k. node_formula (os ++ ys) g (node_at (ns ++ xs) k)) t.nodes))
      ∙ rising-map (λ x. x) falsum (λ g k. node_formula (os ++ ys) g (node_at (ns ++ xs) k)) (λ g k. node_formula os g (node_at ns k)) t.nodes
      (λ k l. rw (node_at_lem k l) (node_formula_lem _ (span_start ns k) k (node_at ns k) (f.formed.node k l)))

  pub formula-front : formula t (ns ++ xs) (os ++ ys) ≡ formula t ns os
  unfolding formula
  formula-front = fun_ext (λ k. ap (λ fs. get_or fs k falsum) formulas_front)

-- ---- the tables that `load` leaves

-- each node has the formula, and each root the node, that it has in the file's contents
pub record SameTheory (t : Counts) (b : Tables) (u : Contents) : Type 0 where
  pub formulas : formula t b.nodes b.operands ≡ formula t u.nodes u.operands
  pub root_nodes : take t.roots b.roots ≡ take t.roots u.roots

holding-theory : (file : List ℕ) (s : Summary) (u : Contents) (b : Tables) → theory_file file ≡ sound s u → SameTheory s.counts (holding u b) u
unfolding over
holding-theory file s u b e =
    let w = formed_whole file s u e in
    record {
      formulas = formula-front w.0 s.counts u.nodes _ u.operands _ u.roots w.1;
      root_nodes = take-append-le s.counts.roots u.roots _ (omega (arith, w.1.roots_long));
    }

pub loaded_theory : (file : List ℕ) (s : Summary) (u : Contents) (b : Tables) → theory_file file ≡ sound s u → (loading (theory_file file) b).answer ≡ Ok s
    → SameTheory s.counts (loading (theory_file file) b).left u
unfolding loading
loaded_theory file s u b e h =
    rw (e, loading) (rw (loaded_sound s s u b (rw (e, loading) at h)).1 (holding-theory file s u b e))
