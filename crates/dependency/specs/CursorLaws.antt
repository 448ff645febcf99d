-- The steps of a cursor over the dependencies.
-- Assumes nothing.
use Rattle.std.specs.Prelude.{ℕ, zero, suc, ◌+◌, ◌-◌, ◌<◌, ◌≤◌, ◌≡◌, Bool, length, get_or, drop, Option, Some, None, Result, Ok, Err}
use Rattle.std.proofs.Common.{add-one, arith, sym, ◌∙◌, length-drop, take-suc, get_or-drop}
use Rattle.std.proofs.Math.Path.{refl, ap}
use Rattle.std.proofs.Math.Bool.{true, false, cond}
use mathlib.Core.List.{List, [], ◌∷◌, ◌++◌, append_assoc, append-nil}
use Rattle.std.proofs.Math.Dec.{ltb}
use borrow.Author.Tests.{ltb-false, lt-ltb, le-ltb, eq-eqb, ne_eqb}
use Rattle.base.specs.Gather.{gather, gather_more}
use Rattle.graph.specs.Edge.{Edge, edge}
use Rattle.theory.specs.Node.{node_at, span}
use Rattle.theory.specs.Admission.{span_start, span_end}
use Rattle.theory.specs.Spans.{Indexed}
use Rattle.theory.specs.WellFormed.{NodeTables}
use Rattle.theory.specs.declared.Counts.{Counts}
use Rattle.theory.specs.declared.Node.{Node}
use Rattle.theory.specs.declared.Node.TheVariants as node
use Rattle.theory.specs.declared.Refusal.{Refusal}
use Rattle.compile.specs.Producer.{produced}
use Rattle.compile.specs.declared.Producer.{Producer}
use Rattle.compile.proofs.RootFormula.{producer_bounded}
use Rattle.ranks.specs.Dependency.{positive, only, operand_edges, node_edges, body_edges, produced_edges, edges_into, edges_of, dependencies}
use Rattle.ranks.specs.Kinds.{Grouped, of_and, of_or, Bare, bare_false, bare_implies, bare_unknown, grouped_indexed}
use Rattle.dependency.specs.Cursor.{slots, slot_edges, before, left, InRange, Moved}
use Rattle.dependency.specs.Lent.{Lent}
use Rattle.dependency.specs.declared.Cursor.{Cursor}

operand_edges-append : (A : ℕ) (classes : List ℕ) (v : ℕ) (xs ys : List ℕ) → operand_edges A classes v (xs ++ ys) ≡ operand_edges A classes v xs ++ operand_edges A classes v ys
unfolding operand_edges
operand_edges-append A classes v [] ys = refl
operand_edges-append A classes v (x ∷ xs) ys = rw (operand_edges-append A classes v xs ys, append_assoc)

-- one more operand at the end of a span
span_end_lem : (operands : List ℕ) (s j : ℕ) → s + j < length operands → span operands s (j + 1) ≡ span operands s j ++ (get_or operands (s + j) 0 ∷ [])
unfolding span
span_end_lem operands s j h =
    rw (add-one, take-suc (drop s operands) j 0 (omega (arith, length-drop s operands)), get_or-drop s operands j 0)

-- where spans begin: they follow one another
end_slots : (node : Node) (at : ℕ) → span_end node at ≡ at + slots node
end_slots (node.Atom a) at = omega arith
end_slots node.False at = omega arith
end_slots (node.Implies l r) at = omega arith
end_slots (node.And s c) at = refl
end_slots (node.Or s c) at = refl
end_slots node.Unknown at = omega arith

pub start_next : (nodes : List ℕ) (k : ℕ) → span_start nodes (k + 1) ≡ span_start nodes k + slots (node_at nodes k)
unfolding span_start
start_next nodes k = rw add-one (end_slots (node_at nodes k) (span_start nodes k))

start_later : (nodes : List ℕ) (k n : ℕ) → span_start nodes k ≤ span_start nodes (k + n)
start_later nodes k zero = let e : k + zero ≡ k = omega arith in rw e (omega arith)
start_later nodes k (suc n) =
    let e : k + suc n ≡ k + n + 1 = omega arith in
    rw e (omega (arith, start_next nodes (k + n), start_later nodes k n))

pub start_below : (nodes : List ℕ) (k n : ℕ) → k ≤ n → span_start nodes k ≤ span_start nodes n
start_below nodes k n l = let e : k + (n - k) ≡ n = omega arith in rw e at (start_later nodes k (n - k))

-- no producer is made
pub data NotMade : Result (Option Producer) Refusal → Type 0 where
  not-nothing : NotMade (Ok None)
  not_refused : {r : Refusal} → NotMade (Err r)

picked_none : (b : Bool) → cond {A = List Edge} b [] [] ≡ []
picked_none true = refl
picked_none false = refl

module _ (t : Counts) (nodes operands classes roots : List ℕ) where
  -- before the first operand of a node, and before the first root
  slot_none : (k : ℕ) (node : Node) → slot_edges t.atoms operands classes k 0 node ≡ []
  unfolding slot_edges span operand_edges
  slot_none k (node.Atom a) = refl
  slot_none k node.False = refl
  slot_none k (node.Implies l r) = refl
  slot_none k (node.And s c) = picked_none (positive classes k)
  slot_none k (node.Or s c) = picked_none (positive classes k)
  slot_none k node.Unknown = refl

  pub before_node : (k i : ℕ) → i ≡ 0 → k ≤ t.nodes → before t nodes operands classes roots (record { node = k; slot = 0; root = i }) ≡ gather (edges_into t.atoms nodes operands classes) k
  unfolding before gather
  before_node k i z l = rw z (go (ltb k t.nodes) refl)
    where
      go : (b : Bool) → ltb k t.nodes ≡ b
          → cond b (gather (edges_into t.atoms nodes operands classes) k ++ slot_edges t.atoms operands classes k 0 (node_at nodes k))
          (gather (edges_into t.atoms nodes operands classes) t.nodes ++ [])
          ≡ gather (edges_into t.atoms nodes operands classes) k
      go true e = rw (slot_none k (node_at nodes k), append-nil)
      go false e = let same : k ≡ t.nodes = omega (arith, ltb-false k t.nodes e) in rw (append-nil, same)

  module _ (c : Cursor) (range : InRange t nodes operands classes roots c) where
    before_slot : c.node < t.nodes
        → before t nodes operands classes roots c
        ≡ gather (edges_into t.atoms nodes operands classes) c.node ++ slot_edges t.atoms operands classes c.node c.slot (node_at nodes c.node)
    unfolding before
    before_slot l = rw (lt-ltb c.node t.nodes l)

    before_root : t.nodes ≤ c.node
        → before t nodes operands classes roots c
        ≡ gather (edges_into t.atoms nodes operands classes) t.nodes ++ gather (edges_of t.atoms nodes operands classes roots) c.root
    unfolding before
    before_root l = rw (le-ltb c.node t.nodes l)

    -- ---- to the next node, past the edges es of this one that are left

    pub next_node : (es : List Edge) → c.node < t.nodes
        → node_edges t.atoms operands classes c.node (node_at nodes c.node) ≡ slot_edges t.atoms operands classes c.node c.slot (node_at nodes c.node) ++ es
        → Moved t nodes operands classes roots c (record { node = c.node + 1; slot = 0; root = c.root }) es
    unfolding edges_into left
    next_node es l e =
        record {
          grown =
              before_node (c.node + 1) c.root (range.roots_later l) (omega arith) ∙ gather_more (edges_into t.atoms nodes operands classes) c.node
              ∙ ap (λ xs. gather (edges_into t.atoms nodes operands classes) c.node ++ xs) e
              ∙ rw (before_slot l, append_assoc);
          range = record { node_in = omega arith; root_in = range.root_in; slot_in = omega arith; slots_over = λ h. refl; roots_later = λ h. range.roots_later l };
          less = omega (arith, start_next nodes c.node, start_below nodes (c.node + 1) t.nodes (omega arith), range.slot_in);
        }

    -- a node without operands in the table
    pub next_atom : (a : ℕ) → c.node < t.nodes → node_at nodes c.node ≡ node.Atom a
        → Moved t nodes operands classes roots c (record { node = c.node + 1; slot = 0; root = c.root }) (edge a (t.atoms + c.node) ∷ [])
    unfolding node_edges slot_edges
    next_atom a l e = next_node (edge a (t.atoms + c.node) ∷ []) l (rw e)

    pub next_bare : (node : Node) → c.node < t.nodes → node_at nodes c.node ≡ node → Bare node
        → Moved t nodes operands classes roots c (record { node = c.node + 1; slot = 0; root = c.root }) []
    unfolding node_edges slot_edges
    next_bare node l e bare_false = next_node [] l (rw e)
    next_bare node l e bare_implies = next_node [] l (rw e)
    next_bare node l e bare_unknown = next_node [] l (rw e)

    -- ---- a group

    module _ (s n : ℕ) (l : c.node < t.nodes) (g : Grouped (node_at nodes c.node) s n) where
      group_edges : (node : Node) → Grouped node s n → node_edges t.atoms operands classes c.node node ≡ cond (positive classes c.node) (operand_edges t.atoms classes (t.atoms + c.node) (span operands s n)) []
      unfolding node_edges
      group_edges node of_and = refl
      group_edges node of_or = refl

      group_slots : (node : Node) → Grouped node s n → (j : ℕ) → slot_edges t.atoms operands classes c.node j node ≡ cond (positive classes c.node) (operand_edges t.atoms classes (t.atoms + c.node) (span operands s j)) []
      unfolding slot_edges
      group_slots node of_and j = refl
      group_slots node of_or j = refl

      slots_are : (node : Node) → Grouped node s n → slots node ≡ n
      slots_are node of_and = refl
      slots_are node of_or = refl

      pub next_frozen : positive classes c.node ≡ false → Moved t nodes operands classes roots c (record { node = c.node + 1; slot = 0; root = c.root }) []
      next_frozen p = next_node [] l (group_edges (node_at nodes c.node) g ∙ rw (group_slots (node_at nodes c.node) g c.slot, p))

      pub next_last : n ≤ c.slot → Moved t nodes operands classes roots c (record { node = c.node + 1; slot = 0; root = c.root }) []
      next_last h =
          let same : c.slot ≡ n = omega (arith, range.slot_in, slots_are (node_at nodes c.node) g) in
          next_node [] l (group_edges (node_at nodes c.node) g ∙ rw (group_slots (node_at nodes c.node) g c.slot, same, append-nil))

      pub next_slot : (o : ℕ) → positive classes c.node ≡ true → c.slot < n → s + n ≤ length operands → o ≡ get_or operands (s + c.slot) 0
          → Moved t nodes operands classes roots c (record { node = c.node; slot = c.slot + 1; root = c.root }) (only (positive classes o) (edge (t.atoms + o) (t.atoms + c.node)))
      unfolding before left operand_edges
      next_slot o p h fits e =
          record {
            grown =
                rw (
                  lt-ltb c.node t.nodes l,
                  group_slots (node_at nodes c.node) g (c.slot + 1),
                  group_slots (node_at nodes c.node) g c.slot,
                  p,
                  span_end_lem operands s c.slot (omega arith),
                  ← e,
                  operand_edges-append t.atoms classes (t.atoms + c.node) (span operands s c.slot) (o ∷ []),
                  append-nil,
                  append_assoc,
                );
            range = record { node_in = range.node_in; root_in = range.root_in; slot_in = omega (arith, slots_are (node_at nodes c.node) g); slots_over = λ q. absurd (omega arith); roots_later = range.roots_later };
            less = omega (arith, start_next nodes c.node, start_below nodes (c.node + 1) t.nodes (omega arith), slots_are (node_at nodes c.node) g);
          }

    -- ---- the roots

    pub next_root : t.nodes ≤ c.node → c.root < t.roots
        → Moved t nodes operands classes roots c (record { node = c.node; slot = c.slot; root = c.root + 1 }) (edges_of t.atoms nodes operands classes roots c.root)
    unfolding before left
    next_root l h =
        record {
          grown = rw (le-ltb c.node t.nodes l, gather_more (edges_of t.atoms nodes operands classes roots) c.root, append_assoc);
          range = record { node_in = range.node_in; root_in = omega arith; slot_in = range.slot_in; slots_over = range.slots_over; roots_later = λ q. absurd (omega arith) };
          less = omega arith;
        }

    pub no_more : t.nodes ≤ c.node → t.roots ≤ c.root → before t nodes operands classes roots c ≡ dependencies t nodes operands classes roots
    unfolding dependencies
    no_more l h = let all : c.root ≡ t.roots = omega (arith, range.root_in) in before_root l ∙ rw all

-- the span of a group lies in the table, and the operand at the cursor is below the node
module _ (t : Counts) (nodes operands : List ℕ) (tables : NodeTables t nodes operands) (k : ℕ) (l : k < t.nodes) (s n : ℕ) (g : Grouped (node_at nodes k) s n) where
  indexed : Indexed operands k s n
  indexed = grouped_indexed t nodes operands tables k l k (omega arith) s n g

  pub operand_within : s + n ≤ length operands
  operand_within = indexed.within

  pub operand_below : (j o : ℕ) → j < n → o ≡ get_or operands (s + j) 0 → o < k
  operand_below j o h e = rw e (indexed.lower (s + j) (omega arith) (omega arith))

-- a class word and the test on it
pub class_yes : (classes : List ℕ) (k w : ℕ) → w ≡ get_or classes k 0 → w ≡ 1 → positive classes k ≡ true
class_yes classes k w p q = eq-eqb (get_or classes k 0) 1 (sym p ∙ q)

pub class_no : (classes : List ℕ) (k w : ℕ) → w ≡ get_or classes k 0 → (w ≡ 1 → ⊥) → positive classes k ≡ false
class_no classes k w p q = ne_eqb (get_or classes k 0) 1 (λ e. q (p ∙ e))

-- ---- the root at hand

module _ (t : Counts) (nodes operands classes roots : List ℕ) (i root : ℕ) (made : Result (Option Producer) Refusal) (p : root ≡ get_or roots i 0) (q : made ≡ produced nodes operands classes root) where
  root_edges : edges_of t.atoms nodes operands classes roots i ≡ produced_edges t.atoms classes made
  unfolding edges_of
  root_edges = rw (← p, ← q)

  pub edges_nothing : NotMade made → edges_of t.atoms nodes operands classes roots i ≡ []
  unfolding produced_edges
  edges_nothing w = root_edges ∙ go made w
    where
      go : (m : Result (Option Producer) Refusal) → NotMade m → produced_edges t.atoms classes m ≡ []
      go m not-nothing = refl
      go m not_refused = refl

  pub edges_bare : (x : Producer) → made ≡ Ok (Some x) → x.body ≡ 0 → edges_of t.atoms nodes operands classes roots i ≡ []
  unfolding produced_edges body_edges
  edges_bare x e z = root_edges ∙ rw (e, z)

  pub edges_body : (x : Producer) (b : ℕ) → made ≡ Ok (Some x) → x.body ≡ suc b → edges_of t.atoms nodes operands classes roots i ≡ only (positive classes b) (edge (t.atoms + b) x.head)
  unfolding produced_edges body_edges
  edges_body x b e z = root_edges ∙ rw (e, z)

-- its producer's head is an atom, and its body a node
pub root_bounded : (t : Counts) (nodes operands classes roots : List ℕ) → Lent t nodes operands roots classes → (i root : ℕ) (made : Result (Option Producer) Refusal) → i < t.roots
    → root ≡ get_or roots i 0 → made ≡ produced nodes operands classes root → (x : Producer) → made ≡ Ok (Some x) → (x.head < t.atoms) × (x.body ≤ t.nodes)
root_bounded t nodes operands classes roots lent i root made l p q x e =
    let b = producer_bounded t nodes operands classes lent.tables root (rw p (lent.listed.in_nodes i l)) x (sym q ∙ e) in
    (b.head_in, b.body_in_lem)
