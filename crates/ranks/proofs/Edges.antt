-- What holds of every dependency: a law for each kind of edge gives it for all.
-- Assumes nothing.
use Rattle.std.specs.Prelude.{Option, Some, None, Result, Ok, Err}
use Prim.Native.Nat.{ℕ, zero, suc, ◌+◌, ◌<◌}
use native.Mathlib.Omega.{arith}
use mathlib.Core.Path.{◌≡◌, refl}
use mathlib.Core.Bool.{Bool, true, false, cond}
use mathlib.Core.List.{List, [], ◌∷◌}
use lib.ListN.{get_or}
use Rattle.base.specs.Each.{Each, each_append, each_left, each_right}
use Rattle.base.specs.Gather.{gather, each_gather, gather_each}
use Rattle.graph.specs.Edge.{Edge, edge}
use Rattle.theory.specs.Node.{node_at, span}
use Rattle.theory.specs.declared.Counts.{Counts}
use Rattle.theory.specs.declared.Node.{Node}
use Rattle.theory.specs.declared.Node.TheVariants.{Atom, False, Implies, And, Or, Unknown}
use Rattle.compile.specs.Producer.{produced}
use Rattle.compile.specs.declared.Producer.{Producer}
use Rattle.ranks.specs.Dependency.{positive, only, operand_edges, node_edges, body_edges, produced_edges, edges_into, edges_of, dependencies}
use Rattle.theory.specs.declared.Refusal.{Refusal}

-- a node is an And or an Or over these operands
pub data Group (operands : List ℕ) : Node → List ℕ → Type 0 where
  of_and : {s c : ℕ} → Group operands (And s c) (span operands s c)
  of_or : {s c : ℕ} → Group operands (Or s c) (span operands s c)

-- a root's producer has the body b
pub record Rule (made : Result (Option Producer) Refusal) (b : ℕ) (p : Producer) : Type 0 where
  pub is : made ≡ Ok (Some p)
  pub body : p.body ≡ suc b

module _ (P : Edge → Type 0) where
  only_each : (c : Bool) (e : Edge) → (c ≡ true → P e) → Each P (only c e)
  unfolding only
  only_each true e h = (h refl, tt)
  only_each false e h = tt

  each_only : (c : Bool) (e : Edge) → Each P (only c e) → c ≡ true → P e
  unfolding only
  each_only true e h q = h.0
  each_only false e h q = let z : ◌≡◌ {A = ℕ} 0 1 = cc in absurd (omega arith)

  operands_each : (A : ℕ) (classes : List ℕ) (v : ℕ) (os : List ℕ) → Each (λ o. positive classes o ≡ true → P (edge (A + o) v)) os → Each P (operand_edges A classes v os)
  unfolding operand_edges
  operands_each A classes v [] h = tt
  operands_each A classes v (o ∷ os) h =
      each_append P (only (positive classes o) (edge (A + o) v)) (operand_edges A classes v os) (only_each (positive classes o) (edge (A + o) v) h.0) (operands_each A classes v os h.1)

  each_operands : (A : ℕ) (classes : List ℕ) (v : ℕ) (os : List ℕ) → Each P (operand_edges A classes v os) → Each (λ o. positive classes o ≡ true → P (edge (A + o) v)) os
  unfolding operand_edges
  each_operands A classes v [] h = tt
  each_operands A classes v (o ∷ os) h = (
    each_only (positive classes o) (edge (A + o) v) (each_left P (only (positive classes o) (edge (A + o) v)) (operand_edges A classes v os) h),
    each_operands A classes v os (each_right P (only (positive classes o) (edge (A + o) v)) (operand_edges A classes v os) h),
  )

  -- into a node
  pub record IntoNode (A : ℕ) (operands classes : List ℕ) (k : ℕ) (node : Node) : Type 0 where
    pub by_atom : (a : ℕ) → node ≡ Atom a → P (edge a (A + k))
    pub by_group : (os : List ℕ) → Group operands node os → positive classes k ≡ true → Each (λ o. positive classes o ≡ true → P (edge (A + o) (A + k))) os

  group_each : (A : ℕ) (classes : List ℕ) (k : ℕ) (os : List ℕ) (b : Bool) → (b ≡ true → Each (λ o. positive classes o ≡ true → P (edge (A + o) (A + k))) os) → Each P (cond b (operand_edges A classes (A + k) os) [])
  group_each A classes k os true h = operands_each A classes (A + k) os (h refl)
  group_each A classes k os false h = tt

  node_each : (A : ℕ) (operands classes : List ℕ) (k : ℕ) (node : Node) → IntoNode A operands classes k node → Each P (node_edges A operands classes k node)
  unfolding node_edges
  node_each A operands classes k (Atom a) h = (h.by_atom a refl, tt)
  node_each A operands classes k False h = tt
  node_each A operands classes k (Implies l r) h = tt
  node_each A operands classes k (And s c) h = group_each A classes k (span operands s c) (positive classes k) (h.by_group (span operands s c) of_and)
  node_each A operands classes k (Or s c) h = group_each A classes k (span operands s c) (positive classes k) (h.by_group (span operands s c) of_or)
  node_each A operands classes k Unknown h = tt

  each_group : (A : ℕ) (classes : List ℕ) (k : ℕ) (os : List ℕ) (b : Bool) → Each P (cond b (operand_edges A classes (A + k) os) []) → b ≡ true → Each (λ o. positive classes o ≡ true → P (edge (A + o) (A + k))) os
  each_group A classes k os true h e = each_operands A classes (A + k) os h
  each_group A classes k os false h e = let z : ◌≡◌ {A = ℕ} 0 1 = cc in absurd (omega arith)

  each_node : (A : ℕ) (operands classes : List ℕ) (k : ℕ) (node : Node) → Each P (node_edges A operands classes k node) → IntoNode A operands classes k node
  unfolding node_edges
  each_node A operands classes k node h = record { by_atom = λ a e. (rw e at h).0; by_group = λ os g. group node os g h }
    where
      group : (node : Node) (os : List ℕ) → Group operands node os → Each P (node_edges A operands classes k node) → positive classes k ≡ true → Each (λ o. positive classes o ≡ true → P (edge (A + o) (A + k))) os
      group node os (of_and {s} {c}) w = each_group A classes k (span operands s c) (positive classes k) w
      group node os (of_or {s} {c}) w = each_group A classes k (span operands s c) (positive classes k) w

  -- out of a body
  body_each : (A : ℕ) (classes : List ℕ) (head body : ℕ) → ((b : ℕ) → body ≡ suc b → positive classes b ≡ true → P (edge (A + b) head)) → Each P (body_edges A classes head body)
  unfolding body_edges
  body_each A classes head zero h = tt
  body_each A classes head (suc b) h = only_each (positive classes b) (edge (A + b) head) (h b refl)

  each_body : (A : ℕ) (classes : List ℕ) (head body b : ℕ) → body ≡ suc b → Each P (body_edges A classes head body) → positive classes b ≡ true → P (edge (A + b) head)
  unfolding body_edges
  each_body A classes head body b e h = each_only (positive classes b) (edge (A + b) head) (rw e at h)

  -- all of them
  module _ (t : Counts) (nodes operands classes roots : List ℕ) where
    pub dependencies_each : ((k : ℕ) → k < t.nodes → IntoNode t.atoms operands classes k (node_at nodes k))
        → ((i : ℕ) → i < t.roots → (b : ℕ) (p : Producer) → Rule (produced nodes operands classes (get_or roots i 0)) b p → positive classes b ≡ true → P (edge (t.atoms + b) p.head))
        → Each P (dependencies t nodes operands classes roots)
    unfolding dependencies edges_into edges_of produced_edges
    dependencies_each f g =
        each_append P (gather (edges_into t.atoms nodes operands classes) t.nodes) (gather (edges_of t.atoms nodes operands classes roots) t.roots)
        (each_gather P (edges_into t.atoms nodes operands classes) t.nodes (λ k l. node_each t.atoms operands classes k (node_at nodes k) (f k l)))
        (each_gather P (edges_of t.atoms nodes operands classes roots) t.roots (λ i l. made i l (produced nodes operands classes (get_or roots i 0)) refl))
      where
        made : (i : ℕ) → i < t.roots → (m : Result (Option Producer) Refusal) → produced nodes operands classes (get_or roots i 0) ≡ m → Each P (produced_edges t.atoms classes m)
        made i l (Ok None) e = tt
        made i l (Ok (Some p)) e = body_each t.atoms classes p.head p.body (λ b q. g i l b p (record { is = e; body = q }))
        made i l (Err r) e = tt

    module _ (all : Each P (dependencies t nodes operands classes roots)) where
      pub each_into : (k : ℕ) → k < t.nodes → IntoNode t.atoms operands classes k (node_at nodes k)
      unfolding dependencies edges_into
      each_into k l =
          each_node t.atoms operands classes k (node_at nodes k)
          (gather_each P (edges_into t.atoms nodes operands classes) t.nodes
          (each_left P (gather (edges_into t.atoms nodes operands classes) t.nodes) (gather (edges_of t.atoms nodes operands classes roots) t.roots) all) k l)

      pub each_rule : (i : ℕ) → i < t.roots → (b : ℕ) (p : Producer) → Rule (produced nodes operands classes (get_or roots i 0)) b p → positive classes b ≡ true → P (edge (t.atoms + b) p.head)
      unfolding dependencies edges_of produced_edges
      each_rule i l b p r =
          each_body t.atoms classes p.head p.body b r.body
          (rw r.is at (gather_each P (edges_of t.atoms nodes operands classes roots) t.roots
          (each_right P (gather (edges_into t.atoms nodes operands classes) t.nodes) (gather (edges_of t.atoms nodes operands classes roots) t.roots) all) i l))
