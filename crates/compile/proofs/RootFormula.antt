-- A root that is not refused has, as the papers see it, its node's formula; its producer names an atom and nodes of the theory.
-- Assumes nothing.
use Rattle.std.specs.Prelude.{Some, None, Result, Ok, Err, Option}
use Prim.Native.Nat.{ℕ, ◌+◌, ◌<◌, ◌≤◌}
use native.Mathlib.Omega.{arith}
use mathlib.Core.Path.{◌≡◌, refl, sym, ap, ◌∙◌}
use mathlib.Core.Bool.{Bool, true, false, cond}
use mathlib.Core.List.{List}
use lib.Dec.{eqb}
use lib.ListN.{length, get_or}
use Rattle.formula.specs.Formula.{Formula, implies}
use Rattle.formula.specs.Head.{Head, head_atom, head_formula}
use Rattle.formula.specs.Root as papers
use Rattle.theory.specs.Node.{node_at}
use Rattle.theory.specs.NodeClass.{is_false}
use Rattle.theory.specs.NodeFormula.{node_formula, formula}
use Rattle.theory.specs.WellFormed.{NodeTables, WellFormed}
use Rattle.theory.specs.Formed.{left_below, right_below}
use Rattle.theory.specs.Refusals.{not_both}
use Rattle.theory.specs.Limits.{Limited}
use Rattle.theory.proofs.Meaning.{formula_step}
use Rattle.theory.specs.declared.Counts.{Counts}
use Rattle.theory.specs.declared.Node.{Node}
use Rattle.theory.specs.declared.Node.TheVariants.{Atom, False, Implies, And, Or, Unknown}
use Rattle.theory.specs.declared.Refusal.TheVariants.{UnsupportedBody}
use Rattle.compile.specs.Head.{head_of}
use Rattle.compile.specs.HeadLaws.{is_false_lem, head_below, head_formula_lem}
use Rattle.compile.specs.Producer.{fact, rule, producer, produced_by, produced}
use Rattle.compile.specs.Producers.{refused_by}
use Rattle.compile.specs.ProducersLaws.{MadeSmall}
use Rattle.compile.specs.Roots.{fact_of, rule_of, root_by, root_of}
use Rattle.compile.specs.declared.Producer.{Producer}
use Rattle.theory.specs.Admission.{admitted}
use Rattle.theory.specs.declared.Refusal.{Refusal}

-- ---- the formula

fact_head : (root : ℕ) (o : Option Head) → refused_by (fact root o) ≡ admitted → (g : Formula) → ((h : Head) → o ≡ Some h → head_formula h ≡ g) → papers.root_formula (fact_of o) ≡ g
unfolding fact refused_by
fact_head root None e g w = absurd (not_both _ e)
fact_head root (Some h) e g w = w h refl

rule_head : (classes : List ℕ) (root b : ℕ) (o : Option Head) → refused_by (rule classes root b o) ≡ admitted → (x g : Formula) → ((h : Head) → o ≡ Some h → head_formula h ≡ g)
    → papers.root_formula (rule_of x o) ≡ implies x g
unfolding rule refused_by
rule_head classes root b None e x g w = absurd (not_both _ e)
rule_head classes root b (Some h) e x g w = ap (implies x) (w h refl)

module _ (t : Counts) (nodes operands roots : List ℕ) (well : WellFormed t nodes operands roots) (long : t.operands ≤ length operands) (classes : List ℕ) where
  f : ℕ → Formula
  f k = formula t nodes operands k

  by_node : (k : ℕ) → k < t.nodes → (node : Node) → node_at nodes k ≡ node → refused_by (produced_by nodes operands classes k node) ≡ admitted
      → papers.root_formula (root_by f nodes operands node) ≡ f k
  unfolding produced_by root_by node_formula f
  by_node k l (Atom a) i e = fact_head k (head_of nodes operands (Atom a)) e (f k) (λ h q. head_formula_lem t nodes operands roots well long k l h (rw i q))
  by_node k l False i e = sym (formula_step t nodes operands roots well k l ∙ rw i)
  by_node k l (Implies x y) i e = go (is_false (node_at nodes y)) refl e
    where
      low : y < k
      low = (rw i at (well.node k l)).1

      whole : f k ≡ implies (f x) (f y)
      whole = formula_step t nodes operands roots well k l ∙ rw i

      go : (c : Bool) → is_false (node_at nodes y) ≡ c → refused_by (cond c (Ok None) (rule classes k x (head_of nodes operands (node_at nodes y)))) ≡ admitted
          → papers.root_formula (cond c (papers.denial (f x)) (rule_of (f x) (head_of nodes operands (node_at nodes y)))) ≡ f k
      go true c q = sym (whole ∙ ap (implies (f x)) (formula_step t nodes operands roots well y (omega (arith, low)) ∙ rw (is_false_lem (node_at nodes y) c)))
      go false c q =
          rule_head classes k x (head_of nodes operands (node_at nodes y)) q (f x) (f y) (λ h s. head_formula_lem t nodes operands roots well long y (omega (arith, low)) h s)
          ∙ sym whole
  by_node k l (And s c) i e = fact_head k (head_of nodes operands (And s c)) e (f k) (λ h q. head_formula_lem t nodes operands roots well long k l h (rw i q))
  by_node k l (Or s c) i e = fact_head k (head_of nodes operands (Or s c)) e (f k) (λ h q. head_formula_lem t nodes operands roots well long k l h (rw i q))
  by_node k l Unknown i e = fact_head k (head_of nodes operands Unknown) e (f k) (λ h q. head_formula_lem t nodes operands roots well long k l h (rw i q))

  pub root_formula_lem : (k : ℕ) → k < t.nodes → refused_by (produced nodes operands classes k) ≡ admitted
      → papers.root_formula (root_of t nodes operands k) ≡ formula t nodes operands k
  unfolding produced root_of f
  root_formula_lem k l e = by_node k l (node_at nodes k) refl e

-- ---- the producer's numbers

-- its head is an atom, its body and its root are nodes
pub record Bounded (t : Counts) (k : ℕ) (p : Producer) : Type 0 where
  pub head_in : p.head < t.atoms
  pub body_in_lem : p.body ≤ t.nodes
  pub root_is : p.root ≡ k

module _ (t : Counts) (nodes operands classes : List ℕ) (tables : NodeTables t nodes operands) where
  bounded_by : (k body : ℕ) (h : Head) (p : Producer) → head_atom h < t.atoms → body ≤ t.nodes → producer k body h ≡ p → Bounded t k p
  bounded_by k body h p a b e = let made : Bounded t k (producer k body h) = record { head_in = a; body_in_lem = b; root_is = refl } in rw e at made

  fact_bounded : (k : ℕ) (o : Option Head) (p : Producer) → ((h : Head) → o ≡ Some h → head_atom h < t.atoms) → fact k o ≡ Ok (Some p) → Bounded t k p
  unfolding fact
  fact_bounded k None p w e = let z : ◌≡◌ {A = ℕ} 0 1 = cc in absurd (omega arith)
  fact_bounded k (Some h) p w e = bounded_by k 0 h p (w h refl) (omega arith) (cc)

  rule_bounded : (k b : ℕ) (o : Option Head) (p : Producer) → ((h : Head) → o ≡ Some h → head_atom h < t.atoms) → b < t.nodes → rule classes k b o ≡ Ok (Some p) → Bounded t k p
  unfolding rule
  rule_bounded k b None p w l e = let z : ◌≡◌ {A = ℕ} 0 1 = cc in absurd (omega arith)
  rule_bounded k b (Some h) p w l e = go (eqb (get_or classes b 0) 2) e
    where
      go : (c : Bool) → cond c (Err (UnsupportedBody k b)) (Ok (Some (producer k (b + 1) h))) ≡ Ok (Some p) → Bounded t k p
      go true q = let z : ◌≡◌ {A = ℕ} 0 1 = cc in absurd (omega arith)
      go false q = bounded_by k (b + 1) h p (w h refl) (omega arith) (cc)

  bounded_node : (k : ℕ) → k < t.nodes → (node : Node) → node_at nodes k ≡ node → (p : Producer) → produced_by nodes operands classes k node ≡ Ok (Some p) → Bounded t k p
  unfolding produced_by
  bounded_node k l (Atom a) i p e = fact_bounded k (head_of nodes operands (Atom a)) p (λ h q. head_below t nodes operands tables k l h (rw i q)) e
  bounded_node k l False i p e = let z : ◌≡◌ {A = ℕ} 0 1 = cc in absurd (omega arith)
  bounded_node k l (Implies x y) i p e = go (is_false (node_at nodes y)) e
    where
      go : (c : Bool) → cond c (Ok None) (rule classes k x (head_of nodes operands (node_at nodes y))) ≡ Ok (Some p) → Bounded t k p
      go true q = let z : ◌≡◌ {A = ℕ} 0 1 = cc in absurd (omega arith)
      go false q =
          rule_bounded k x (head_of nodes operands (node_at nodes y)) p
          (λ h s. head_below t nodes operands tables y (omega (arith, right_below t nodes operands tables k l x y i)) h s)
          (omega (arith, left_below t nodes operands tables k l x y i)) q
  bounded_node k l (And s c) i p e = fact_bounded k (head_of nodes operands (And s c)) p (λ h q. head_below t nodes operands tables k l h (rw i q)) e
  bounded_node k l (Or s c) i p e = fact_bounded k (head_of nodes operands (Or s c)) p (λ h q. head_below t nodes operands tables k l h (rw i q)) e
  bounded_node k l Unknown i p e = fact_bounded k (head_of nodes operands Unknown) p (λ h q. head_below t nodes operands tables k l h (rw i q)) e

  pub producer_bounded : (k : ℕ) → k < t.nodes → (p : Producer) → produced nodes operands classes k ≡ Ok (Some p) → Bounded t k p
  unfolding produced
  producer_bounded k l p e = bounded_node k l (node_at nodes k) refl p e

  small_by : (k : ℕ) → Limited t → k < t.nodes → (made : Result (Option Producer) Refusal) → ((p : Producer) → made ≡ Ok (Some p) → Bounded t k p) → MadeSmall made
  small_by k m l (Ok None) w = tt
  small_by k m l (Ok (Some p)) w =
      let b = w p refl in
      (omega (arith, b.head_in, m.atoms), omega (arith, b.body_in_lem, m.nodes), omega (arith, b.root_is, m.nodes))
  small_by k m l (Err r) w = tt

  -- each of its numbers is a u32
  pub made_small : (k : ℕ) → Limited t → k < t.nodes → (made : Result (Option Producer) Refusal) → made ≡ produced nodes operands classes k → MadeSmall made
  made_small k m l made e = small_by k m l made (λ p q. producer_bounded k l p (sym e ∙ q))
