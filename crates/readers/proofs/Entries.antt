-- What the lists of well-formed tables hold: every reader is a node above, a producer or a root position; every atom node is an Atom of that atom.
-- Assumes nothing.
use Prim.Native.Nat.{ℕ, zero, suc, ◌+◌, ◌*◌, ◌<◌, ◌≤◌}
use native.Mathlib.Omega.{arith}
use mathlib.Core.Path.{◌≡◌, refl}
use mathlib.Core.Bool.{Bool, true, false, cond}
use mathlib.Core.List.{List, [], ◌∷◌, ◌++◌, map, map-id}
use lib.Dec.{eqb}
use lib.ListN.{get_or, replicate}
use borrow.Author.Tests.{eqb-true}
use Rattle.base.specs.Each.{Each, each_append}
use Rattle.base.specs.Places.{places, places-yes, places_no}
use Rattle.theory.specs.Node.{node_at, operands_of}
use Rattle.theory.specs.declared.Counts.{Counts}
use Rattle.readers.specs.Joined.{joined}
use Rattle.readers.specs.Reader.{reading_of, packed_read, node_reader, producer_reader, root_reader}
use Rattle.readers.specs.Readers.{occurrences, reading_node, readers_of}
use Rattle.readers.specs.AtomNodes.{is_atom_of, atom_nodes_of}
use Rattle.readers.specs.Planned.{Planned}
use Rattle.readers.specs.Proper.{Proper}
use Rattle.readers.proofs.Below.{each_joined}
use Rattle.readers.proofs.Readers.{operands_lower}

each_replicate : (P : ℕ → Type 0) (c x : ℕ) → (0 < c → P x) → Each P (replicate c x)
each_replicate P zero x h = tt
each_replicate P (suc c) x h = (h (omega arith), each_replicate P c x (λ _. h (omega arith)))

each_places : (P : ℕ → Type 0) (g : ℕ → ℕ) (q : ℕ → Bool) (i n : ℕ) → ((k : ℕ) → i ≤ k → k < i + n → q k ≡ true → P (g k)) → Each P (map g (places q i n))
unfolding places
each_places P g q i zero h = tt
each_places P g q i (suc n) h = go (q i) refl (each_places P g q (i + 1) n (λ k a b e. h k (omega arith) (omega arith) e))
  where
    go : (b : Bool) → q i ≡ b → Each P (map g (places q (i + 1) n)) → Each P (map g (places q i (suc n)))
    go true e ih = rw (places-yes q i n e) (h i (omega arith) (omega arith) e, ih)
    go false e ih = rw (places_no q i n e) ih

-- what occurs among lower nodes is lower
occurs_lower : (k m : ℕ) (os : List ℕ) → Each (λ o. o < m) os → 0 < occurrences k os → k < m
unfolding occurrences
occurs_lower k m [] h l = absurd (omega arith)
occurs_lower k m (o ∷ os) h l = go (eqb o k) refl (occurs_lower k m os h.1) l
  where
    go : (b : Bool) → eqb o k ≡ b → (0 < occurrences k os → k < m) → 0 < cond b (suc (occurrences k os)) (occurrences k os) → k < m
    go true e ih q = omega (arith, eqb-true o k e, h.0)
    go false e ih q = ih q

module _ (t : Counts) (nodes operands roots producers : List ℕ) (p : ℕ) (planned : Planned t nodes operands roots producers p) where
  abbrev Right : ℕ → ℕ → Type 0
  Right k x = Proper t p k (reading_of x)

  node_right : (k m : ℕ) → m < t.nodes → k < m → Right k (node_reader m)
  node_right k m l h = rw (packed_read 0 m (omega (arith, planned.limited.nodes))) (h, l)

  producer_right : (k i : ℕ) → i < p → Right k (producer_reader i)
  producer_right k i l = rw (packed_read 2 i (omega (arith, planned.few, planned.limited.roots))) l

  root_right : (k i : ℕ) → i < t.roots → Right k (root_reader i)
  root_right k i l = rw (packed_read 3 i (omega (arith, planned.limited.roots))) l

  reading_right : (k m : ℕ) → m < t.nodes → Each (Right k) (reading_node nodes operands k m)
  unfolding reading_node
  reading_right k m l =
      each_replicate (Right k) (occurrences k (operands_of operands (node_at nodes m))) (node_reader m)
      (λ some. node_right k m l (occurs_lower k m (operands_of operands (node_at nodes m)) (operands_lower t operands _ m (node_at nodes m) (planned.tables.formed m l)) some))

  pub readers_proper : (k : ℕ) → Each (λ x. Proper t p k (reading_of x)) (readers_of t nodes operands roots producers p k)
  unfolding readers_of
  readers_proper k =
      each_append (Right k) (joined (reading_node nodes operands k) 0 t.nodes) (map producer_reader bodies ++ map root_reader held)
      (each_joined (Right k) (reading_node nodes operands k) 0 t.nodes (λ m a b. reading_right k m (omega arith)))
      (each_append (Right k) (map producer_reader bodies) (map root_reader held)
      (each_places (Right k) producer_reader (λ i. eqb (get_or producers (4 * i + 1) 0) (k + 1)) 0 p (λ i a b e. producer_right k i (omega arith)))
      (each_places (Right k) root_reader (λ i. eqb (get_or roots i 0) k) 0 t.roots (λ i a b e. root_right k i (omega arith))))
    where
      bodies : List ℕ
      bodies = places (λ i. eqb (get_or producers (4 * i + 1) 0) (k + 1)) 0 p

      held : List ℕ
      held = places (λ i. eqb (get_or roots i 0) k) 0 t.roots

-- of any tables
pub atom_nodes_are : (t : Counts) (nodes : List ℕ) (a : ℕ) → Each (λ m. (m < t.nodes) × (is_atom_of a (node_at nodes m) ≡ true)) (atom_nodes_of t nodes a)
unfolding atom_nodes_of
atom_nodes_are t nodes a =
    rw map-id at (each_places (λ m. (m < t.nodes) × (is_atom_of a (node_at nodes m) ≡ true)) (λ m. m) (λ k. is_atom_of a (node_at nodes k)) 0 t.nodes (λ k l m e. (omega arith, e)))
