-- Tables are admitted exactly if they are well formed.
-- Assumes nothing.
use Rattle.std.specs.Prelude.{Err}
use Prim.Native.Nat.{ℕ, zero, suc, ◌+◌, ◌<◌, ◌≤◌}
use native.Mathlib.Omega.{arith}
use mathlib.Core.Path.{◌≡◌, refl}
use mathlib.Core.Logic.{◌↔◌}
use mathlib.Core.Bool.{Bool, true, false, cond, ◌&&◌}
use mathlib.Core.List.{List}
use lib.Dec.{ltb}
use lib.ListN.{get_or}
use borrow.Author.Tests.{ltb-true, lt-ltb, eq-eqb, ne_eqb, le-leb}
use Rattle.base.specs.Tests.{both_left, both_right}
use Rattle.base.specs.Each.{Each}
use Rattle.theory.specs.Node.{node_at, span, operands_of}
use Rattle.theory.specs.Admission.{group_admission, node_admission, root_admission, span_start, nodes_admission, roots_admission, admission, admitted}
use Rattle.theory.specs.WellFormed.{SpanFormed, NodeFormed, WellFormed}
use Rattle.theory.specs.Spans.{all_below_each, each_all_below}
use Rattle.theory.specs.Refusals.{not_both, or_else_left, or-else-right, none_refused, all_admitted, group_admitted, end_within}
use Rattle.theory.specs.declared.Counts.{Counts}
use Rattle.theory.specs.declared.Node.{Node}
use Rattle.theory.specs.declared.Node.TheVariants.{Atom, False, Implies, And, Or, Unknown}
use Rattle.theory.specs.declared.Refusal.{Refusal}

passed : (b : Bool) (r : Refusal) → cond b admitted (Err r) ≡ admitted → b ≡ true
passed true r e = refl
passed false r e = absurd (not_both r e)

span_formed : (t : Counts) (operands : List ℕ) (start k s c : ℕ) → group_admission t.operands operands start k s c ≡ admitted → SpanFormed t operands start k s c
span_formed t operands start k s c e =
    let g = group_admitted t.operands operands start k s c e in
    record { begins = g.0; some = g.1; fits = g.2; lower = all_below_each k (span operands s c) g.3 }

span_admitted : (t : Counts) (operands : List ℕ) (start k s c : ℕ) → SpanFormed t operands start k s c → group_admission t.operands operands start k s c ≡ admitted
unfolding group_admission
span_admitted t operands start k s c f =
    simp (ne_eqb c 0 (λ z. omega (arith, f.some)), eq-eqb s start f.begins, le-leb (s + c) t.operands f.fits, each_all_below k (span operands s c) f.lower)

node_formed : (t : Counts) (operands : List ℕ) (start k : ℕ) (node : Node) → node_admission t operands start k node ≡ admitted → NodeFormed t operands start k node
unfolding node_admission
node_formed t operands start k (Atom a) e = ltb-true a t.atoms (passed (ltb a t.atoms) _ e)
node_formed t operands start k False e = tt
node_formed t operands start k (Implies l r) e =
    let b = passed (ltb l k && ltb r k) _ e in
    (ltb-true l k (both_left (ltb l k) (ltb r k) b), ltb-true r k (both_right (ltb l k) (ltb r k) b))
node_formed t operands start k (And s c) e = span_formed t operands start k s c e
node_formed t operands start k (Or s c) e = span_formed t operands start k s c e
node_formed t operands start k Unknown e = not_both _ e

node_admitted : (t : Counts) (operands : List ℕ) (start k : ℕ) (node : Node) → NodeFormed t operands start k node → node_admission t operands start k node ≡ admitted
unfolding node_admission
node_admitted t operands start k (Atom a) f = rw (lt-ltb a t.atoms f)
node_admitted t operands start k False f = refl
node_admitted t operands start k (Implies l r) f = simp (lt-ltb l k f.0, lt-ltb r k f.1)
node_admitted t operands start k (And s c) f = span_admitted t operands start k s c f
node_admitted t operands start k (Or s c) f = span_admitted t operands start k s c f
node_admitted t operands start k Unknown f = absurd f

module _ (t : Counts) (nodes operands roots : List ℕ) where
  pub admitted_formed : admission t nodes operands roots ≡ admitted → WellFormed t nodes operands roots
  unfolding admission nodes_admission roots_admission root_admission
  admitted_formed e =
      let ns = or_else_left (nodes_admission t nodes operands) (roots_admission t roots) e in
      let rs = or-else-right (nodes_admission t nodes operands) (roots_admission t roots) e in
      record {
        node = λ k l. node_formed t operands (span_start nodes k) k (node_at nodes k) (none_refused _ 0 t.nodes ns k (omega arith) (omega arith));
        root = λ i l. ltb-true (get_or roots i 0) t.nodes (passed _ _ (none_refused _ 0 t.roots rs i (omega arith) (omega arith)));
      }

  pub formed_admitted : WellFormed t nodes operands roots → admission t nodes operands roots ≡ admitted
  unfolding admission nodes_admission roots_admission root_admission
  formed_admitted f =
      rw (all_admitted _ 0 t.nodes (λ k a b. node_admitted t operands (span_start nodes k) k (node_at nodes k) (f.node k (omega arith))))
      (all_admitted _ 0 t.roots (λ i a b. rw (lt-ltb (get_or roots i 0) t.nodes (f.root i (omega arith)))))

  pub admitted_exactly : (admission t nodes operands roots ≡ admitted) ↔ WellFormed t nodes operands roots
  admitted_exactly = (admitted_formed, formed_admitted)

  -- the spans of well-formed tables lie within the operand table
  pub starts_within : WellFormed t nodes operands roots → (k : ℕ) → k ≤ t.nodes → span_start nodes k ≤ t.operands
  unfolding span_start
  starts_within f zero l = omega arith
  starts_within f (suc k) l =
      end_within t operands (span_start nodes k) k (node_at nodes k)
      (node_admitted t operands (span_start nodes k) k (node_at nodes k) (f.node k (omega arith)))
      (starts_within f k (omega arith))

-- a well-formed node names only lower nodes
pub operands_lower : (t : Counts) (operands : List ℕ) (start k : ℕ) (node : Node) → NodeFormed t operands start k node → Each (λ o. o < k) (operands_of operands node)
unfolding operands_of
operands_lower t operands start k (Atom a) f = tt
operands_lower t operands start k False f = tt
operands_lower t operands start k (Implies l r) f = (f.0, (f.1, tt))
operands_lower t operands start k (And s c) f = f.lower
operands_lower t operands start k (Or s c) f = f.lower
operands_lower t operands start k Unknown f = tt
