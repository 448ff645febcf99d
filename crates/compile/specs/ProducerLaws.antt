-- The exits of the functions that make a producer.
-- Assumes nothing.
use Rattle.std.specs.Prelude.{ℕ, ◌+◌, ◌≡◌, refl, false, cond, List, eqb, get_or, Option, Some, None, Result, Ok, Err}
use Rattle.std.proofs.lemmas.Option.{same_Some}
use Rattle.formula.specs.Head.{head_atom}
use Rattle.formula.specs.Head as formula
use Rattle.theory.specs.declared.Refusal.{Refusal}
use Rattle.theory.specs.declared.Refusal.TheVariants.{UnsupportedRoot, UnsupportedBody}
use Rattle.theory.specs.declared.Node.{Node}
use Rattle.theory.specs.declared.Node.TheVariants as node
use Rattle.compile.specs.Head.{as_atom, denies, either_order, head_of, kind_of, seen}
use Rattle.compile.specs.Producer.{fact, rule, produced_by}
use Rattle.compile.specs.declared.Head.{Head}
use Rattle.compile.specs.declared.Kind.TheVariants.{Choice}
use Rattle.compile.specs.declared.Producer.{Producer}

-- ---- a choice in either order

pub order_first : (o m : Option ℕ) (a : ℕ) → o ≡ Some a → Some (record { atom = a; kind = Choice }) ≡ seen (either_order o m)
unfolding seen either_order
order_first o m a e = rw e

pub order_second : (o m : Option ℕ) (a : ℕ) → o ≡ None → m ≡ Some a → Some (record { atom = a; kind = Choice }) ≡ seen (either_order o m)
unfolding seen either_order
order_second o m a e f = rw (e, f)

pub order_none : (o m : Option ℕ) → o ≡ None → m ≡ None → None ≡ seen (either_order o m)
unfolding seen either_order
order_none o m e f = rw (e, f)

-- ---- heads

-- of a node that is none of the kinds that make one
pub no_atom : (x : Node) → ((a : ℕ) → x ≡ node.Atom a → ⊥) → None ≡ as_atom x
no_atom (node.Atom a) n = absurd (n a refl)
no_atom node.False n = refl
no_atom (node.Implies l r) n = refl
no_atom (node.And s c) n = refl
no_atom (node.Or s c) n = refl
no_atom node.Unknown n = refl

pub no_denial : (nodes : List ℕ) (p : ℕ) (x : Node) → ((l r : ℕ) → x ≡ node.Implies l r → ⊥) → denies nodes p x ≡ false
no_denial nodes p (node.Atom a) n = refl
no_denial nodes p node.False n = refl
no_denial nodes p (node.Implies l r) n = absurd (n l r refl)
no_denial nodes p (node.And s c) n = refl
no_denial nodes p (node.Or s c) n = refl
no_denial nodes p node.Unknown n = refl

pub no_head : (nodes operands : List ℕ) (x : Node) → ((a : ℕ) → x ≡ node.Atom a → ⊥) → ((s c : ℕ) → x ≡ node.Or s c → ⊥) → None ≡ seen (head_of nodes operands x)
unfolding seen head_of
no_head nodes operands (node.Atom a) n m = absurd (n a refl)
no_head nodes operands node.False n m = refl
no_head nodes operands (node.Implies l r) n m = refl
no_head nodes operands (node.And s c) n m = refl
no_head nodes operands (node.Or s c) n m = absurd (m s c refl)
no_head nodes operands node.Unknown n m = refl

-- of a root that is neither False nor an Implies
pub as_fact : (nodes operands classes : List ℕ) (root : ℕ) (x : Node) → (x ≡ node.False → ⊥) → ((l r : ℕ) → x ≡ node.Implies l r → ⊥) → fact root (head_of nodes operands x) ≡ produced_by nodes operands classes root x
unfolding produced_by
as_fact nodes operands classes root (node.Atom a) n m = refl
as_fact nodes operands classes root node.False n m = absurd (n refl)
as_fact nodes operands classes root (node.Implies l r) n m = absurd (m l r refl)
as_fact nodes operands classes root (node.And s c) n m = refl
as_fact nodes operands classes root (node.Or s c) n m = refl
as_fact nodes operands classes root node.Unknown n m = refl

pub fact-none : (root : ℕ) (o : Option formula.Head) → seen o ≡ None → Err (UnsupportedRoot root) ≡ fact root o
unfolding seen fact
fact-none root None e = refl
fact-none root (Some h) e = cc

pub fact_some : (root : ℕ) (h : Head) (o : Option formula.Head) → seen o ≡ Some h → Ok (Some (record { head = h.atom; body = 0; root = root; kind = h.kind })) ≡ fact root o
unfolding seen fact
fact_some root h None e = cc
fact_some root h (Some g) e = let s : record { atom = head_atom g; kind = kind_of g } ≡ h = same_Some _ _ e in rw (← s)

pub rule_none : (classes : List ℕ) (root body : ℕ) (o : Option formula.Head) → seen o ≡ None → Err (UnsupportedRoot root) ≡ rule classes root body o
unfolding seen rule
rule_none classes root body None e = refl
rule_none classes root body (Some h) e = cc

-- a body's producer, or its refusal
unfoldable pub bodied : List ℕ → ℕ → ℕ → Head → Result (Option Producer) Refusal
bodied classes root body h = cond (eqb (get_or classes body 0) 2) (Err (UnsupportedBody root body)) (Ok (Some (record { head = h.atom; body = body + 1; root = root; kind = h.kind })))

pub rule_some : (classes : List ℕ) (root body : ℕ) (h : Head) (o : Option formula.Head) → seen o ≡ Some h → bodied classes root body h ≡ rule classes root body o
unfolding seen rule bodied
rule_some classes root body h None e = cc
rule_some classes root body h (Some g) e = let s : record { atom = head_atom g; kind = kind_of g } ≡ h = same_Some _ _ e in rw (← s)
