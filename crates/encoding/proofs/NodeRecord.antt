-- A node as a record: its mark and its values.
-- Assumes nothing.
use Rattle.std.specs.Prelude.{Result}
use Prim.Native.Nat.{ℕ, ◌<◌, ◌≤◌}
use native.Mathlib.Omega.{arith}
use mathlib.Core.Path.{◌≡◌, refl}
use mathlib.Core.Bool.{true, cond}
use mathlib.Core.List.{List, [], ◌∷◌}
use lib.ListN.{length}
use borrow.Author.Tests.{ne_eqb}
use Rattle.base.specs.Each.{each_map}
use Rattle.theory.specs.Spans.{each_all_below}
use Rattle.theory.specs.declared.Counts.{Counts}
use Rattle.record.specs.Mark.{in_order}
use Rattle.record.specs.Layout.{counted, arity}
use Rattle.record.specs.Passed.{more, counts_after, passed, passed_other}
use Rattle.record.specs.Record.{unless, judged_group, judged_values}
use Rattle.record.specs.Contents.{of_record}
use Rattle.record.specs.declared.Stage.{Stage}
use Rattle.record.specs.declared.Stage.TheVariants as stage
use Rattle.record.specs.declared.Cursor.{Cursor}
use Rattle.record.specs.declared.Mark.{Mark}
use Rattle.record.specs.declared.Mark.TheVariants as mark
use Rattle.encoding.specs.Value.{Node, Atom, False, Implies, And, Or}
use Rattle.encoding.specs.Encoding.{node_bytes}
use Rattle.encoding.specs.Held.{operand_entries, node_words}
use Rattle.encoding.specs.Sound.{Below, SoundNode}
use Rattle.encoding.proofs.Form.{numbers_in, form_of}
use Rattle.encoding.proofs.Rest.{of_node}
use Rattle.theory.specs.declared.Refusal.{Refusal}

-- its mark
abbrev pub mark_of : Node → Mark
mark_of (Atom a) = mark.Atom
mark_of False = mark.False
mark_of (Implies l r) = mark.Implies
mark_of (And os) = mark.And
mark_of (Or os) = mark.Or

-- its values
abbrev pub values_in : Node → List ℕ
values_in (Atom a) = a ∷ []
values_in False = []
values_in (Implies l r) = l ∷ r ∷ []
values_in (And os) = os
values_in (Or os) = os

pub node_form : (n : Node) → form_of (mark_of n) (values_in n) ≡ node_bytes n
unfolding form_of node_bytes
node_form (Atom a) = refl
node_form False = refl
node_form (Implies l r) = refl
node_form (And os) = refl
node_form (Or os) = refl

pub node_ordered : (n : Node) (s : Stage) → s ≡ stage.Nodes → in_order (mark_of n) s ≡ true
node_ordered (Atom a) s e = rw e
node_ordered False s e = rw e
node_ordered (Implies l r) s e = rw e
node_ordered (And os) s e = rw e
node_ordered (Or os) s e = rw e

pub node_many : (n : Node) → cond (counted (mark_of n)) (length (values_in n)) (arity (mark_of n)) ≡ length (values_in n)
node_many (Atom a) = refl
node_many False = refl
node_many (Implies l r) = refl
node_many (And os) = refl
node_many (Or os) = refl

pub node_counts : (t : Counts) (n : Node) → counts_after t (mark_of n) (values_in n) ≡ more t 1 (length (operand_entries n)) 0
unfolding operand_entries
node_counts t (Atom a) = refl
node_counts t False = refl
node_counts t (Implies l r) = refl
node_counts t (And os) = refl
node_counts t (Or os) = refl

pub node_contents : (start : ℕ) (n : Node) → of_record start (mark_of n) (values_in n) ≡ of_node start n
unfolding operand_entries node_words
node_contents start (Atom a) = refl
node_contents start False = refl
node_contents start (Implies l r) = refl
node_contents start (And os) = refl
node_contents start (Or os) = refl

pub node_past : (c : Cursor) (n : Node) (t : Counts) (end : ℕ) → passed c (mark_of n) t end ≡ passed_other c stage.Nodes t end
node_past c (Atom a) t end = refl
node_past c False t end = refl
node_past c (Implies l r) t end = refl
node_past c (And os) t end = refl
node_past c (Or os) t end = refl

-- ---- a sound node

pub below_small : (bound : ℕ) (xs : List ℕ) → bound ≤ 4294967296 → Below bound xs → Below 4294967296 xs
below_small bound xs h b = each_map (λ x. x < bound) (λ x. x < 4294967296) xs (λ x l. omega arith) b

pub node_small : (atoms k : ℕ) (n : Node) → SoundNode atoms k n → atoms ≤ 65536 → k ≤ 262144 → length (operand_entries n) ≤ 1048576
    → Below 4294967296 (numbers_in (counted (mark_of n)) (values_in n))
unfolding operand_entries
node_small atoms k (Atom a) s p q r = (omega arith, tt)
node_small atoms k False s p q r = tt
node_small atoms k (Implies l r) s p q r' = (omega (arith, s.0), (omega (arith, s.1), tt))
node_small atoms k (And os) s p q r = (omega arith, below_small k os (omega arith) s.1)
node_small atoms k (Or os) s p q r = (omega arith, below_small k os (omega arith) s.1)

module _ (c : Cursor) (next : Result Cursor Refusal) where
  group_passes : (os : List ℕ) → 0 < length os → Below c.counts.nodes os → judged_group c os next ≡ next
  unfolding judged_group unless
  group_passes os h b = rw (ne_eqb (length os) 0 (λ e. omega arith), each_all_below c.counts.nodes os b)

  pub node_passes : (n : Node) → SoundNode c.counts.atoms c.counts.nodes n → judged_values c (mark_of n) (values_in n) next ≡ next
  unfolding judged_values unless
  node_passes (Atom a) s = rw (each_all_below c.counts.atoms (a ∷ []) (s, tt))
  node_passes False s = refl
  node_passes (Implies l r) s = rw (each_all_below c.counts.nodes (l ∷ r ∷ []) (s.0, (s.1, tt)))
  node_passes (And os) s = group_passes os s.0 s.1
  node_passes (Or os) s = group_passes os s.0 s.1
