-- A root that is refused is refused 10 or 11.
-- Assumes nothing.
use Rattle.std.specs.Prelude.{Some, None, Result, Ok, Err, Option}
use Prim.Native.Nat.{ℕ, ◌+◌}
use mathlib.Core.Path.{◌≡◌, refl}
use mathlib.Core.Bool.{Bool, true, false, cond}
use mathlib.Core.List.{List}
use lib.Dec.{eqb}
use lib.ListN.{get_or}
use Rattle.formula.specs.Head.{Head}
use Rattle.theory.specs.Node.{node_at}
use Rattle.theory.specs.NodeClass.{is_false}
use Rattle.theory.specs.Only.{Only, only_admitted, only_refused, only_first}
use Rattle.theory.specs.declared.Counts.{Counts}
use Rattle.theory.specs.declared.Node.{Node}
use Rattle.theory.specs.declared.Node.TheVariants.{Atom, False, Implies, And, Or, Unknown}
use Rattle.theory.specs.declared.Refusal.{Refusal}
use Rattle.theory.specs.declared.Refusal.TheVariants.{UnsupportedRoot, UnsupportedBody}
use Rattle.compile.specs.Head.{head_of}
use Rattle.compile.specs.Producer.{producer, fact, rule, produced_by, produced}
use Rattle.compile.specs.Producers.{refused_by, supported_at, roots_supported}
use Rattle.compile.specs.declared.Producer.{Producer}

module _ (P : Refusal → Type 0) where
  abbrev OnlyBy : Result (Option Producer) Refusal → Type 0
  OnlyBy p = Only P (refused_by p)

  fact-only : (root : ℕ) → P (UnsupportedRoot root) → (o : Option Head) → OnlyBy (fact root o)
  unfolding fact refused_by
  fact-only root ten None = only_refused P (UnsupportedRoot root) ten
  fact-only root ten (Some h) = only_admitted P

  rule-only : (classes : List ℕ) (root body : ℕ) → P (UnsupportedRoot root) → P (UnsupportedBody root body) → (o : Option Head) → OnlyBy (rule classes root body o)
  unfolding rule refused_by
  rule-only classes root body ten eleven None = only_refused P (UnsupportedRoot root) ten
  rule-only classes root body ten eleven (Some h) = go (eqb (get_or classes body 0) 2)
    where
      go : (b : Bool) → OnlyBy (cond b (Err (UnsupportedBody root body)) (Ok (Some (producer root (body + 1) h))))
      go true = only_refused P (UnsupportedBody root body) eleven
      go false = only_admitted P

  module _ (nodes operands classes : List ℕ) where
    node_only : (root : ℕ) → P (UnsupportedRoot root) → (n : Node) → ((l r : ℕ) → n ≡ Implies l r → P (UnsupportedBody root l))
        → OnlyBy (produced_by nodes operands classes root n)
    unfolding produced_by refused_by
    node_only root ten (Atom a) eleven = fact-only root ten (head_of nodes operands (Atom a))
    node_only root ten False eleven = only_admitted P
    node_only root ten (Implies l r) eleven = go (is_false (node_at nodes r))
      where
        go : (b : Bool) → OnlyBy (cond b (Ok None) (rule classes root l (head_of nodes operands (node_at nodes r))))
        go true = only_admitted P
        go false = rule-only classes root l ten (eleven l r refl) (head_of nodes operands (node_at nodes r))
    node_only root ten (And s c) eleven = fact-only root ten (head_of nodes operands (And s c))
    node_only root ten (Or s c) eleven = fact-only root ten (head_of nodes operands (Or s c))
    node_only root ten Unknown eleven = fact-only root ten (head_of nodes operands Unknown)

    -- what holds of 10 of a root, and of 11 with the left of its Implies as body
    pub root_only : (roots : List ℕ) (i : ℕ) → P (UnsupportedRoot (get_or roots i 0)) → ((l r : ℕ) → node_at nodes (get_or roots i 0) ≡ Implies l r → P (UnsupportedBody (get_or roots i 0) l))
        → Only P (supported_at nodes operands classes roots i)
    unfolding supported_at produced
    root_only roots i ten eleven = node_only (get_or roots i 0) ten (node_at nodes (get_or roots i 0)) eleven

-- whatever holds of these two refusals
pub supported-only : (P : Refusal → Type 0) → ((root : ℕ) → P (UnsupportedRoot root)) → ((root body : ℕ) → P (UnsupportedBody root body))
    → (nodes operands classes : List ℕ) (t : Counts) (roots : List ℕ) → Only P (roots_supported t nodes operands classes roots)
unfolding roots_supported
supported-only P ten eleven nodes operands classes t roots =
    only_first P (supported_at nodes operands classes roots) (λ i. root_only P nodes operands classes roots i (ten (get_or roots i 0)) (λ l r e. eleven (get_or roots i 0) l)) 0 t.roots
