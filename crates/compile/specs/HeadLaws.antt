-- A head that a node of well-formed tables makes: its atom is one of the theory's, and its formula is the node's.
-- Assumes nothing.
use Rattle.std.specs.Prelude.{ℕ, ◌+◌, ◌<◌, ◌≤◌, ◌≡◌, Bool, true, false, cond, List, [], ◌∷◌, eqb, length, Option, Some, None}
use Rattle.std.proofs.Common.{arith, ◌∙◌, eqb-true}
use Rattle.std.proofs.Math.Path.{refl, sym, ap}
use Rattle.std.proofs.lemmas.Bool.{false≢true}
use Rattle.std.proofs.Math.ListN.{get_or}
use Rattle.base.specs.Tests.{both_left, both_right}
use Rattle.base.specs.Each.{Each}
use Rattle.formula.specs.Formula.{Formula, atom, disj, nil, cons, of_list}
use Rattle.formula.specs.Head.{Head, normal, choice, flipped, head_atom, head_formula, negated}
use Rattle.theory.specs.Node.{node_at, span}
use Rattle.theory.specs.NodeClass.{is_false}
use Rattle.theory.specs.NodeFormula.{node_formula, formula}
use Rattle.theory.specs.WellFormed.{NodeTables, WellFormed}
use Rattle.theory.specs.Formed.{atom_below, or_indexed}
use Rattle.theory.specs.Spans.{span_more}
use Rattle.theory.proofs.Meaning.{formula_step}
use Rattle.theory.specs.declared.Counts.{Counts}
use Rattle.theory.specs.declared.Node.{Node}
use Rattle.theory.specs.declared.Node.TheVariants.{Atom, False, Implies, And, Or, Unknown}
use Rattle.compile.specs.Head.{as_atom, denies, chosen, either_order, head_of}

as_atom_lem : (node : Node) (a : ℕ) → as_atom node ≡ Some a → node ≡ Atom a
as_atom_lem (Atom b) a e = cc
as_atom_lem False a e = cc
as_atom_lem (Implies l r) a e = cc
as_atom_lem (And s c) a e = cc
as_atom_lem (Or s c) a e = cc
as_atom_lem Unknown a e = cc

pub is_false_lem : (node : Node) → is_false node ≡ true → node ≡ False
is_false_lem (Atom b) e = cc
is_false_lem False e = refl
is_false_lem (Implies l r) e = cc
is_false_lem (And s c) e = cc
is_false_lem (Or s c) e = cc
is_false_lem Unknown e = cc

-- what denies node p
pub record Denial (nodes : List ℕ) (p : ℕ) (node : Node) : Type 0 where
  pub right : ℕ
  pub is : node ≡ Implies p right
  pub to_false : node_at nodes right ≡ False

denial : (nodes : List ℕ) (p : ℕ) (node : Node) → denies nodes p node ≡ true → Denial nodes p node
denial nodes p (Atom a) e = absurd (false≢true e)
denial nodes p False e = absurd (false≢true e)
denial nodes p (Implies l r) e =
    let same : l ≡ p = eqb-true l p (both_left (eqb l p) (is_false (node_at nodes r)) e) in
    record { right = r; is = rw same; to_false = is_false_lem (node_at nodes r) (both_right (eqb l p) (is_false (node_at nodes r)) e) }
denial nodes p (And s c) e = absurd (false≢true e)
denial nodes p (Or s c) e = absurd (false≢true e)
denial nodes p Unknown e = absurd (false≢true e)

pub record Chosen (nodes : List ℕ) (p q a : ℕ) : Type 0 where
  pub positive : node_at nodes p ≡ Atom a
  pub negative : Denial nodes p (node_at nodes q)

chosen_is : (nodes : List ℕ) (p q a : ℕ) → chosen nodes p q ≡ Some a → Chosen nodes p q a
unfolding chosen
chosen_is nodes p q a e = go (denies nodes p (node_at nodes q)) refl e
  where
    go : (b : Bool) → denies nodes p (node_at nodes q) ≡ b → cond b (as_atom (node_at nodes p)) None ≡ Some a → Chosen nodes p q a
    go true d t = record { positive = as_atom_lem (node_at nodes p) a t; negative = denial nodes p (node_at nodes q) d }
    go false d t = let z : ◌≡◌ {A = ℕ} 0 1 = cc in absurd (omega arith)

-- the two operands of an Or that is a choice, and in which order
pub data Ordered (nodes : List ℕ) (p q : ℕ) : Head → Type 0 where
  straight : {a : ℕ} → Chosen nodes p q a → Ordered nodes p q (choice a)
  reversed : {a : ℕ} → Chosen nodes q p a → Ordered nodes p q (flipped a)

ordered : (nodes : List ℕ) (p q : ℕ) (h : Head) (o m : Option ℕ) → chosen nodes p q ≡ o → chosen nodes q p ≡ m → either_order o m ≡ Some h → Ordered nodes p q h
unfolding either_order
ordered nodes p q h (Some a) m eo em e = let s : choice a ≡ h = cc in rw s at (straight (chosen_is nodes p q a eo))
ordered nodes p q h None (Some a) eo em e = let s : flipped a ≡ h = cc in rw s at (reversed (chosen_is nodes q p a em))
ordered nodes p q h None None eo em e = let z : ◌≡◌ {A = ℕ} 0 1 = cc in absurd (omega arith)

-- what a node with a head is
pub data Heads (nodes operands : List ℕ) : Node → Head → Type 0 where
  by_atom : {a : ℕ} → Heads nodes operands (Atom a) (normal a)
  by_choice : {s : ℕ} {h : Head} → Ordered nodes (get_or operands s 0) (get_or operands (s + 1) 0) h → Heads nodes operands (Or s 2) h

pub heads : (nodes operands : List ℕ) (node : Node) (h : Head) → head_of nodes operands node ≡ Some h → Heads nodes operands node h
unfolding head_of
heads nodes operands (Atom a) h e = let s : h ≡ normal a = cc in rw s by_atom
heads nodes operands False h e = let z : ◌≡◌ {A = ℕ} 0 1 = cc in absurd (omega arith)
heads nodes operands (Implies l r) h e = let z : ◌≡◌ {A = ℕ} 0 1 = cc in absurd (omega arith)
heads nodes operands (And s c) h e = let z : ◌≡◌ {A = ℕ} 0 1 = cc in absurd (omega arith)
heads nodes operands (Or s c) h e = go (eqb c 2) refl e
  where
    p : ℕ
    p = get_or operands s 0

    q : ℕ
    q = get_or operands (s + 1) 0

    go : (b : Bool) → eqb c 2 ≡ b → cond b (either_order (chosen nodes p q) (chosen nodes q p)) None ≡ Some h → Heads nodes operands (Or s c) h
    go true i t = rw (eqb-true c 2 i) (by_choice (ordered nodes p q h _ _ refl refl t))
    go false i t = let z : ◌≡◌ {A = ℕ} 0 1 = cc in absurd (omega arith)
heads nodes operands Unknown h e = let z : ◌≡◌ {A = ℕ} 0 1 = cc in absurd (omega arith)

module _ (t : Counts) (nodes operands : List ℕ) (tables : NodeTables t nodes operands) where
  chosen_below : (p q a : ℕ) → p < t.nodes → Chosen nodes p q a → a < t.atoms
  chosen_below p q a l c = atom_below t nodes operands tables p l a c.positive

  ordered_below : (p q : ℕ) (h : Head) → p < t.nodes → q < t.nodes → Ordered nodes p q h → head_atom h < t.atoms
  ordered_below p q h l m (straight {a} c) = chosen_below p q a l c
  ordered_below p q h l m (reversed {a} c) = chosen_below q p a m c

  heads_below : (k : ℕ) → k < t.nodes → (node : Node) → node_at nodes k ≡ node → (h : Head) → Heads nodes operands node h → head_atom h < t.atoms
  heads_below k l node e h (by_atom {a}) = atom_below t nodes operands tables k l a e
  heads_below k l node e h (by_choice {s} o) =
      let i = or_indexed t nodes operands tables k l t.nodes s 2 (omega arith) e in
      ordered_below (get_or operands s 0) (get_or operands (s + 1) 0) h (i.lower s (omega arith) (omega arith)) (i.lower (s + 1) (omega arith) (omega arith)) o

  -- a head's atom is below `atoms`
  pub head_below : (k : ℕ) → k < t.nodes → (h : Head) → head_of nodes operands (node_at nodes k) ≡ Some h → head_atom h < t.atoms
  head_below k l h e = heads_below k l (node_at nodes k) refl h (heads nodes operands (node_at nodes k) h e)

module _ (t : Counts) (nodes operands roots : List ℕ) (well : WellFormed t nodes operands roots) (long : t.operands ≤ length operands) where
  f : ℕ → Formula
  f k = formula t nodes operands k

  step : (k : ℕ) → k < t.nodes → (node : Node) → node_at nodes k ≡ node → f k ≡ node_formula operands f node
  unfolding f
  step k l node e = formula_step t nodes operands roots well k l ∙ rw e

  chosen_formulas : (p q a : ℕ) → p < t.nodes → q < t.nodes → Chosen nodes p q a → (f p ≡ atom a) × (f q ≡ negated a)
  unfolding node_formula
  chosen_formulas p q a l m c =
      let r = c.negative.right in
      let low : r < q = (rw c.negative.is at (well.node q m)).1 in
      (step p l (Atom a) c.positive, step q m (Implies p r) c.negative.is ∙ rw (step p l (Atom a) c.positive, step r (omega arith) False c.negative.to_false))

  ordered_formula : (p q : ℕ) (h : Head) → p < t.nodes → q < t.nodes → Ordered nodes p q h → head_formula h ≡ disj (cons (f p) (cons (f q) nil))
  ordered_formula p q h l m (straight {a} c) = let w = chosen_formulas p q a l m c in rw (w.0, w.1)
  ordered_formula p q h l m (reversed {a} c) = let w = chosen_formulas q p a m l c in rw (w.0, w.1)

  two_operands : (s : ℕ) → s + 2 ≤ length operands → span operands s 2 ≡ get_or operands s 0 ∷ get_or operands (s + 1) 0 ∷ []
  unfolding span
  two_operands s h =
      span_more operands s 1 (omega arith)
      ∙ ap (λ os. get_or operands s 0 ∷ os) (span_more operands (s + 1) 0 (omega arith))

  heads_formula : (k : ℕ) → k < t.nodes → (node : Node) → node_at nodes k ≡ node → (h : Head) → Heads nodes operands node h → head_formula h ≡ f k
  unfolding node_formula of_list
  heads_formula k l node e h (by_atom {a}) = sym (step k l (Atom a) e)
  heads_formula k l node e h (by_choice {s} o) =
      let formed = rw e at (well.node k l) in
      let two = two_operands s (omega (arith, formed.fits)) in
      let lower : Each (λ o. o < k) (get_or operands s 0 ∷ get_or operands (s + 1) 0 ∷ []) = rw two at formed.lower in
      ordered_formula (get_or operands s 0) (get_or operands (s + 1) 0) h (omega arith) (omega arith) o
      ∙ sym (step k l (Or s 2) e ∙ rw two)

  -- a head's formula is its node's
  pub head_formula_lem : (k : ℕ) → k < t.nodes → (h : Head) → head_of nodes operands (node_at nodes k) ≡ Some h → head_formula h ≡ formula t nodes operands k
  unfolding f
  head_formula_lem k l h e = heads_formula k l (node_at nodes k) refl h (heads nodes operands (node_at nodes k) h e)
