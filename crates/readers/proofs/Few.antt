-- How many incidences there are: at most two for each node, and one for each operand entry, producer and root position.
-- Assumes nothing.
use Prim.Native.Nat.{ℕ, zero, suc, ◌+◌, ◌*◌, ◌<◌, ◌≤◌}
use native.Mathlib.Omega.{arith}
use mathlib.Core.Path.{ap}
use mathlib.Core.List.{List, [], ◌∷◌, ◌++◌}
use lib.ListN.{length, get_or, drop, length-append, length-take}
use Rattle.theory.specs.Node.{node_at, span, operands_of}
use Rattle.theory.specs.Admission.{span_end, span_start}
use Rattle.theory.specs.WellFormed.{NodeFormed}
use Rattle.theory.specs.declared.Counts.{Counts}
use Rattle.theory.specs.declared.Node.{Node}
use Rattle.theory.specs.declared.Node.TheVariants.{Atom, False, Implies, And, Or, Unknown}
use Rattle.readers.specs.Joined.{joined, joined-more}
use Rattle.readers.specs.Incidences.{Item, operand_items, node_items, items_at, body_items, producer_items, root_items, incidences, entries_of}
use Rattle.readers.specs.Planned.{Planned}
use Rattle.readers.specs.Laid.{start_of}
use Rattle.readers.specs.ReaderTable.{slots, reader_words}
use Rattle.readers.proofs.Placement.{lists_few}
use Rattle.readers.proofs.Steps.{length_items}

-- a list of at most one for each number
few_joined : (f : ℕ → List Item) (n : ℕ) → ((k : ℕ) → k < n → length (f k) ≤ 1) → length (joined f 0 n) ≤ n
unfolding joined
few_joined f zero h = omega arith
few_joined f (suc n) h =
    omega (arith, ap length (joined-more f n), length-append (joined f 0 n) (f n), h n (omega arith), few_joined f n (λ k l. h k (omega arith)))

group_few : (operands : List ℕ) (k at s c : ℕ) → at + length (operand_items k (span operands s c)) ≤ 2 + (at + c)
unfolding span
group_few operands k at s c = omega (arith, length_items k (span operands s c), length-take c (drop s operands))

node_few : (n : ℕ) (operands : List ℕ) (k at : ℕ) (node : Node) → at + length (node_items n operands k node) ≤ 2 + span_end node at
unfolding node_items operands_of
node_few n operands k at (Atom a) = omega arith
node_few n operands k at False = omega arith
node_few n operands k at (Implies l r) = omega (arith, length_items k (l ∷ r ∷ []))
node_few n operands k at (And s c) = group_few operands k at s c
node_few n operands k at (Or s c) = group_few operands k at s c
node_few n operands k at Unknown = omega arith

body_few : (i b : ℕ) → length (body_items i b) ≤ 1
body_few i zero = omega arith
body_few i (suc b) = omega arith

producer_few : (producers : List ℕ) (i : ℕ) → length (producer_items producers i) ≤ 1
unfolding producer_items
producer_few producers i = body_few i (get_or producers (4 * i + 1) 0)

root_few : (roots : List ℕ) (i : ℕ) → length (root_items roots i) ≤ 1
unfolding root_items
root_few roots i = omega arith

end_formed : (t : Counts) (operands : List ℕ) (at k : ℕ) (node : Node) → NodeFormed t operands at k node → at ≤ t.operands → span_end node at ≤ t.operands
end_formed t operands at k (Atom a) f h = h
end_formed t operands at k False f h = h
end_formed t operands at k (Implies l r) f h = h
end_formed t operands at k (And s c) f h = omega (arith, f.begins, f.fits)
end_formed t operands at k (Or s c) f h = omega (arith, f.begins, f.fits)
end_formed t operands at k Unknown f h = h

module _ (t : Counts) (nodes operands roots producers : List ℕ) (p : ℕ) (planned : Planned t nodes operands roots producers p) where
  span_starts : (k : ℕ) → k ≤ t.nodes → span_start nodes k ≤ t.operands
  unfolding span_start
  span_starts zero h = omega arith
  span_starts (suc k) h =
      end_formed t operands (span_start nodes k) k (node_at nodes k) (planned.tables.formed k (omega arith)) (span_starts k (omega arith))

  nodes_few : (k : ℕ) → length (joined (items_at t nodes operands) 0 k) ≤ 2 * k + span_start nodes k
  unfolding joined span_start
  nodes_few zero = omega arith
  nodes_few (suc k) =
      omega (
        arith,
        ap length (joined-more (items_at t nodes operands) k),
        length-append (joined (items_at t nodes operands) 0 k) (items_at t nodes operands k),
        node_few t.nodes operands k (span_start nodes k) (node_at nodes k),
        nodes_few k,
      )

  pub incidences_few : length (incidences t nodes operands roots producers p) ≤ 2 * t.nodes + t.operands + 2 * t.roots
  unfolding incidences
  incidences_few =
      omega (
        arith,
        length-append (joined (items_at t nodes operands) 0 t.nodes) (joined (producer_items producers) 0 p ++ joined (root_items roots) 0 t.roots),
        length-append (joined (producer_items producers) 0 p) (joined (root_items roots) 0 t.roots),
        nodes_few t.nodes,
        span_starts t.nodes (omega arith),
        few_joined (producer_items producers) p (λ k l. producer_few producers k),
        few_joined (root_items roots) t.roots (λ k l. root_few roots k),
        planned.few,
      )

  -- the lent table has room for all lists
  pub lists_room : start_of (λ s. entries_of s (incidences t nodes operands roots producers p)) (slots t) (slots t) ≤ reader_words t
  unfolding start_of
  lists_room = omega (arith, lists_few (incidences t nodes operands roots producers p) (slots t), incidences_few)
