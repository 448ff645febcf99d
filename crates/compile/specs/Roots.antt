-- A root as the papers see it: a constraint, a denial, a fact or a rule.
-- Assumes nothing.
use Rattle.std.specs.Prelude.{ℕ, ◌+◌, ◌≡◌, refl, Bool, true, false, cond, List, map, eqb, get_or, take, Option, Some, None, Ok, Err}
use Rattle.std.proofs.Common.{arith, sym, ap}
use Rattle.std.proofs.lemmas.Bool.{eqb-false}
use Rattle.formula.specs.Formula.{Formula}
use Rattle.formula.specs.Head.{Head, head_atom}
use Rattle.formula.specs.Root.{Root, constraint, denial, fact, rule}
use Rattle.theory.specs.Node.{node_at}
use Rattle.theory.specs.NodeClass.{is_false}
use Rattle.theory.specs.NodeFormula.{formula}
use Rattle.theory.specs.declared.Counts.{Counts}
use Rattle.theory.specs.declared.Node.{Node}
use Rattle.theory.specs.declared.Node.TheVariants.{Atom, False, Implies, And, Or, Unknown}
use Rattle.theory.specs.declared.Refusal.TheVariants.{UnsupportedBody}
use Rattle.compile.specs.Head.{head_of}
use Rattle.compile.specs.Producer as producing
use Rattle.compile.specs.Producer.{producer, produced_by, produced}
use Rattle.compile.specs.declared.Producer.{Producer}

-- a root that is refused counts as a constraint: no plan has it
abbrev pub fact_of : Option Head → Root
fact_of None = constraint
fact_of (Some h) = fact h

abbrev pub rule_of : Formula → Option Head → Root
rule_of b None = constraint
rule_of b (Some h) = rule b h

unfoldable pub root_by : (ℕ → Formula) → List ℕ → List ℕ → Node → Root
root_by f nodes operands (Atom a) = fact_of (head_of nodes operands (Atom a))
root_by f nodes operands False = constraint
root_by f nodes operands (Implies l r) = cond (is_false (node_at nodes r)) (denial (f l)) (rule_of (f l) (head_of nodes operands (node_at nodes r)))
root_by f nodes operands (And s c) = fact_of (head_of nodes operands (And s c))
root_by f nodes operands (Or s c) = fact_of (head_of nodes operands (Or s c))
root_by f nodes operands Unknown = fact_of (head_of nodes operands Unknown)

-- the root at node k
unfoldable pub root_of : Counts → List ℕ → List ℕ → ℕ → Root
root_of t nodes operands k = root_by (formula t nodes operands) nodes operands (node_at nodes k)

-- the theory's roots, in order
unfoldable pub roots_of : Counts → List ℕ → List ℕ → List ℕ → List Root
roots_of t nodes operands roots = map (root_of t nodes operands) (take t.roots roots)

-- ---- a producer is its root's

-- p is the producer of the root x; its body, if it has one, is the node b and not Opaque
pub data MadeOf (f : ℕ → Formula) (classes : List ℕ) (p : Producer) : Root → Type 0 where
  from-fact : {h : Head} → p.head ≡ head_atom h → p.body ≡ 0 → MadeOf f classes p (fact h)
  from-rule : {b : ℕ} {h : Head} → p.head ≡ head_atom h → p.body ≡ b + 1 → (get_or classes b 0 ≡ 2 → ⊥) → MadeOf f classes p (rule (f b) h)

pub data NothingOf : Root → Type 0 where
  from_constraint : NothingOf constraint
  from_denial : {b : Formula} → NothingOf (denial b)

fact_made : (f : ℕ → Formula) (classes : List ℕ) (p : Producer) (root : ℕ) (o : Option Head) → producing.fact root o ≡ Ok (Some p) → MadeOf f classes p (fact_of o)
unfolding producing.fact
fact_made f classes p root None e = let z : ◌≡◌ {A = ℕ} 0 1 = cc in absurd (omega arith)
fact_made f classes p root (Some h) e = let s : producer root 0 h ≡ p = cc in from-fact (sym (ap (λ x. x.head) s)) (sym (ap (λ x. x.body) s))

rule_made : (f : ℕ → Formula) (classes : List ℕ) (p : Producer) (root b : ℕ) (o : Option Head) → producing.rule classes root b o ≡ Ok (Some p) → MadeOf f classes p (rule_of (f b) o)
unfolding producing.rule
rule_made f classes p root b None e = let z : ◌≡◌ {A = ℕ} 0 1 = cc in absurd (omega arith)
rule_made f classes p root b (Some h) e = go (eqb (get_or classes b 0) 2) refl e
  where
    go : (c : Bool) → eqb (get_or classes b 0) 2 ≡ c → cond c (Err (UnsupportedBody root b)) (Ok (Some (producer root (b + 1) h))) ≡ Ok (Some p) → MadeOf f classes p (rule (f b) h)
    go true i q = let z : ◌≡◌ {A = ℕ} 0 1 = cc in absurd (omega arith)
    go false i q =
        let s : producer root (b + 1) h ≡ p = cc in
        from-rule (sym (ap (λ x. x.head) s)) (sym (ap (λ x. x.body) s)) (eqb-false (get_or classes b 0) 2 i)

made_by_lem : (f : ℕ → Formula) (nodes operands classes : List ℕ) (p : Producer) (root : ℕ) (node : Node) → produced_by nodes operands classes root node ≡ Ok (Some p)
    → MadeOf f classes p (root_by f nodes operands node)
unfolding produced_by root_by
made_by_lem f nodes operands classes p root (Atom a) e = fact_made f classes p root (head_of nodes operands (Atom a)) e
made_by_lem f nodes operands classes p root False e = let z : ◌≡◌ {A = ℕ} 0 1 = cc in absurd (omega arith)
made_by_lem f nodes operands classes p root (Implies l r) e = go (is_false (node_at nodes r)) e
  where
    go : (c : Bool) → cond c (Ok None) (producing.rule classes root l (head_of nodes operands (node_at nodes r))) ≡ Ok (Some p)
        → MadeOf f classes p (cond c (denial (f l)) (rule_of (f l) (head_of nodes operands (node_at nodes r))))
    go true q = let z : ◌≡◌ {A = ℕ} 0 1 = cc in absurd (omega arith)
    go false q = rule_made f classes p root l (head_of nodes operands (node_at nodes r)) q
made_by_lem f nodes operands classes p root (And s c) e = fact_made f classes p root (head_of nodes operands (And s c)) e
made_by_lem f nodes operands classes p root (Or s c) e = fact_made f classes p root (head_of nodes operands (Or s c)) e
made_by_lem f nodes operands classes p root Unknown e = fact_made f classes p root (head_of nodes operands Unknown) e

-- a root that makes no producer and is not refused
fact-nothing : (root : ℕ) (o : Option Head) → producing.fact root o ≡ Ok None → ⊥
unfolding producing.fact
fact-nothing root None e = let z : ◌≡◌ {A = ℕ} 0 1 = cc in omega arith
fact-nothing root (Some h) e = let z : ◌≡◌ {A = ℕ} 0 1 = cc in omega arith

rule-nothing : (classes : List ℕ) (root b : ℕ) (o : Option Head) → producing.rule classes root b o ≡ Ok None → ⊥
unfolding producing.rule
rule-nothing classes root b None e = let z : ◌≡◌ {A = ℕ} 0 1 = cc in omega arith
rule-nothing classes root b (Some h) e = go (eqb (get_or classes b 0) 2) e
  where
    go : (c : Bool) → cond c (Err (UnsupportedBody root b)) (Ok (Some (producer root (b + 1) h))) ≡ Ok None → ⊥
    go true q = let z : ◌≡◌ {A = ℕ} 0 1 = cc in omega arith
    go false q = let z : ◌≡◌ {A = ℕ} 0 1 = cc in omega arith

nothing-by : (f : ℕ → Formula) (nodes operands classes : List ℕ) (root : ℕ) (node : Node) → produced_by nodes operands classes root node ≡ Ok None
    → NothingOf (root_by f nodes operands node)
unfolding produced_by root_by
nothing-by f nodes operands classes root (Atom a) e = absurd (fact-nothing root (head_of nodes operands (Atom a)) e)
nothing-by f nodes operands classes root False e = from_constraint
nothing-by f nodes operands classes root (Implies l r) e = go (is_false (node_at nodes r)) e
  where
    go : (c : Bool) → cond c (Ok None) (producing.rule classes root l (head_of nodes operands (node_at nodes r))) ≡ Ok None
        → NothingOf (cond c (denial (f l)) (rule_of (f l) (head_of nodes operands (node_at nodes r))))
    go true q = from_denial
    go false q = absurd (rule-nothing classes root l (head_of nodes operands (node_at nodes r)) q)
nothing-by f nodes operands classes root (And s c) e = absurd (fact-nothing root (head_of nodes operands (And s c)) e)
nothing-by f nodes operands classes root (Or s c) e = absurd (fact-nothing root (head_of nodes operands (Or s c)) e)
nothing-by f nodes operands classes root Unknown e = absurd (fact-nothing root (head_of nodes operands Unknown) e)

module _ (t : Counts) (nodes operands classes : List ℕ) (k : ℕ) where
  pub made_of : (p : Producer) → produced nodes operands classes k ≡ Ok (Some p) → MadeOf (formula t nodes operands) classes p (root_of t nodes operands k)
  unfolding produced root_of
  made_of p e = made_by_lem (formula t nodes operands) nodes operands classes p k (node_at nodes k) e

  pub nothing_of : produced nodes operands classes k ≡ Ok None → NothingOf (root_of t nodes operands k)
  unfolding produced root_of
  nothing_of e = nothing-by (formula t nodes operands) nodes operands classes k (node_at nodes k) e
