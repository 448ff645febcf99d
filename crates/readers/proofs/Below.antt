-- Every incidence is of one of the table's lists.
-- Assumes nothing.
use Prim.Native.Nat.{ℕ, zero, suc, ◌+◌, ◌*◌, ◌<◌, ◌≤◌}
use native.Mathlib.Omega.{arith}
use mathlib.Core.List.{List, [], ◌∷◌, ◌++◌}
use lib.ListN.{get_or}
use Rattle.base.specs.Each.{Each, each_append}
use Rattle.theory.specs.Node.{node_at, operands_of}
use Rattle.theory.specs.WellFormed.{NodeFormed}
use Rattle.theory.specs.declared.Counts.{Counts}
use Rattle.theory.specs.declared.Node.{Node}
use Rattle.theory.specs.declared.Node.TheVariants.{Atom, False, Implies, And, Or, Unknown}
use Rattle.readers.specs.Joined.{joined}
use Rattle.readers.specs.Incidences.{Item, operand_items, node_items, items_at, body_items, producer_items, root_items, incidences}
use Rattle.readers.specs.ReaderTable.{slots}
use Rattle.readers.specs.Planned.{Planned}

pub each_joined : {A : Type 0} (P : A → Type 0) (f : ℕ → List A) (i n : ℕ) → ((k : ℕ) → i ≤ k → k < i + n → Each P (f k)) → Each P (joined f i n)
unfolding joined
each_joined P f i zero h = tt
each_joined P f i (suc n) h = each_append P (f i) _ (h i (omega arith) (omega arith)) (each_joined P f (i + 1) n (λ k a b. h k (omega arith) (omega arith)))

-- it is an item of one of n lists
abbrev pub Below : ℕ → Item → Type 0
Below n x = x.slot < n

operands_below : (n k : ℕ) (os : List ℕ) → k ≤ n → Each (λ o. o < k) os → Each (Below n) (operand_items k os)
unfolding operand_items
operands_below n k [] l h = tt
operands_below n k (o ∷ os) l h = (omega (arith, h.0), operands_below n k os l h.1)

node_below : (t : Counts) (operands : List ℕ) (at k : ℕ) (node : Node) → k < t.nodes → NodeFormed t operands at k node → Each (Below (slots t)) (node_items t.nodes operands k node)
unfolding node_items operands_of
node_below t operands at k (Atom a) l f = (omega arith, tt)
node_below t operands at k False l f = tt
node_below t operands at k (Implies x y) l f = operands_below (slots t) k (x ∷ y ∷ []) (omega arith) (f.0, (f.1, tt))
node_below t operands at k (And s c) l f = operands_below (slots t) k _ (omega arith) f.lower
node_below t operands at k (Or s c) l f = operands_below (slots t) k _ (omega arith) f.lower
node_below t operands at k Unknown l f = tt

body_below : (n i b : ℕ) → b ≤ n → Each (Below n) (body_items i b)
body_below n i zero h = tt
body_below n i (suc b) h = (omega arith, tt)

module _ (t : Counts) (nodes operands roots producers : List ℕ) (p : ℕ) where
  pub all-below : Planned t nodes operands roots producers p → Each (Below (slots t)) (incidences t nodes operands roots producers p)
  unfolding incidences producer_items root_items
  all-below h =
      each_append (Below (slots t)) (joined (items_at t nodes operands) 0 t.nodes) (joined (producer_items producers) 0 p ++ joined (root_items roots) 0 t.roots)
      (each_joined (Below (slots t)) (items_at t nodes operands) 0 t.nodes (λ k a b. node_below t operands _ k (node_at nodes k) (omega arith) (h.tables.formed k (omega arith))))
      (each_append (Below (slots t)) (joined (producer_items producers) 0 p) (joined (root_items roots) 0 t.roots)
      (each_joined (Below (slots t)) (producer_items producers) 0 p (λ k a b. body_below (slots t) k (get_or producers (4 * k + 1) 0) (omega (arith, h.body k (omega arith)))))
      (each_joined (Below (slots t)) (root_items roots) 0 t.roots (λ k a b. (omega (arith, h.root k (omega arith)), tt))))
