-- The lists of the reader table: each is the incidences of its slot, in order, and is what the definition says.
-- Assumes nothing.
use Prim.Native.Nat.{ℕ, zero, suc, ◌+◌, ◌-◌, ◌*◌, ◌<◌, ◌≤◌}
use native.Mathlib.Omega.{arith}
use mathlib.Core.Path.{◌≡◌, refl, ap, ap₂, sym, ◌∙◌}
use mathlib.Core.Logic.{⊎_elim}
use mathlib.Core.Bool.{Bool, true, false, cond}
use mathlib.Core.List.{List, [], ◌∷◌, ◌++◌, map, map-id, append-nil}
use lib.Dec.{eqb}
use lib.ListN.{get_or, replicate}
use borrow.Author.Tests.{eqb-true, eqb-false, eq-eqb, ne_eqb, lt-ltb, le-ltb}
use Rattle.base.specs.Tests.{equal_or, below_or}
use Rattle.base.specs.Each.{Each}
use Rattle.base.specs.Places.{places, places-yes, places_no}
use Rattle.theory.specs.Node.{node_at, span, operands_of}
use Rattle.theory.specs.WellFormed.{NodeFormed}
use Rattle.theory.specs.declared.Counts.{Counts}
use Rattle.theory.specs.declared.Node.{Node}
use Rattle.theory.specs.declared.Node.TheVariants.{Atom, False, Implies, And, Or, Unknown}
use Rattle.readers.specs.Joined.{joined, joined_agree, joined-none}
use Rattle.readers.specs.Laid.{laid}
use Rattle.readers.specs.LaidLaws.{laid_agree}
use Rattle.readers.specs.Reader.{node_reader, producer_reader, root_reader}
use Rattle.readers.specs.Incidences.{Item, item, atom_slot, operand_items, node_items, body_items, producer_items, root_items, incidences, entries_of}
use Rattle.readers.specs.Readers.{occurrences, reading_node, readers_of}
use Rattle.readers.specs.AtomNodes.{is_atom_of, atom_nodes_of}
use Rattle.readers.specs.ReaderTable.{list_of, slots}
use Rattle.readers.specs.Planned.{Planned}
use Rattle.readers.proofs.Placement.{entries_here, entries_other}

-- ---- entries of a list, part by part

entries_append : (s : ℕ) (xs ys : List Item) → entries_of s (xs ++ ys) ≡ entries_of s xs ++ entries_of s ys
unfolding entries_of
entries_append s [] ys = refl
entries_append s (x ∷ xs) ys = go (eqb x.slot s) (entries_append s xs ys)
  where
    go : (b : Bool) → entries_of s (xs ++ ys) ≡ entries_of s xs ++ entries_of s ys
        → cond b (x.entry ∷ entries_of s (xs ++ ys)) (entries_of s (xs ++ ys)) ≡ cond b (x.entry ∷ entries_of s xs) (entries_of s xs) ++ entries_of s ys
    go true e = ap (λ r. x.entry ∷ r) e
    go false e = e

entries_joined : (s : ℕ) (f : ℕ → List Item) (i n : ℕ) → entries_of s (joined f i n) ≡ joined (λ k. entries_of s (f k)) i n
unfolding joined entries_of
entries_joined s f i zero = refl
entries_joined s f i (suc n) = entries_append s (f i) (joined f (i + 1) n) ∙ ap (λ r. entries_of s (f i) ++ r) (entries_joined s f (i + 1) n)

-- at most one for each number: the numbers at which there is one
joined-places : (q : ℕ → Bool) (g : ℕ → ℕ) (f : ℕ → List ℕ) (i n : ℕ) → ((k : ℕ) → i ≤ k → k < i + n → f k ≡ cond (q k) (g k ∷ []) []) → joined f i n ≡ map g (places q i n)
unfolding joined places
joined-places q g f i zero h = refl
joined-places q g f i (suc n) h = go (q i) refl (joined-places q g f (i + 1) n (λ k a b. h k (omega arith) (omega arith)))
  where
    go : (b : Bool) → q i ≡ b → joined f (i + 1) n ≡ map g (places q (i + 1) n) → joined f i (suc n) ≡ map g (places q i (suc n))
    go true e ih = ap₂ ◌++◌ (h i (omega arith) (omega arith) ∙ ap (λ b. cond b (g i ∷ []) []) e) ih ∙ sym (ap (map g) (places-yes q i n e))
    go false e ih = ap₂ ◌++◌ (h i (omega arith) (omega arith) ∙ ap (λ b. cond b (g i ∷ []) []) e) ih ∙ sym (ap (map g) (places_no q i n e))

-- ---- one node

-- occurrences among operands
operand_entries_lem : (k m : ℕ) (os : List ℕ) → entries_of k (operand_items m os) ≡ replicate (occurrences k os) (node_reader m)
unfolding entries_of operand_items occurrences
operand_entries_lem k m [] = refl
operand_entries_lem k m (o ∷ os) = go (eqb o k) (operand_entries_lem k m os)
  where
    go : (b : Bool) → entries_of k (operand_items m os) ≡ replicate (occurrences k os) (node_reader m)
        → cond b (node_reader m ∷ entries_of k (operand_items m os)) (entries_of k (operand_items m os)) ≡ replicate (cond b (suc (occurrences k os)) (occurrences k os)) (node_reader m)
    go true e = ap (λ r. node_reader m ∷ r) e
    go false e = e

node_entries : (n : ℕ) (operands : List ℕ) (k m : ℕ) (node : Node) → k ≤ n → entries_of k (node_items n operands m node) ≡ replicate (occurrences k (operands_of operands node)) (node_reader m)
unfolding node_items operands_of occurrences
node_entries n operands k m (Atom a) h = entries_other k (atom_slot n a) m [] (λ e. omega arith) ∙ (unfold entries_of in refl)
node_entries n operands k m False h = unfold entries_of in refl
node_entries n operands k m (Implies l r) h = operand_entries_lem k m (l ∷ r ∷ [])
node_entries n operands k m (And s c) h = operand_entries_lem k m (span operands s c)
node_entries n operands k m (Or s c) h = operand_entries_lem k m (span operands s c)
node_entries n operands k m Unknown h = unfold entries_of in refl

-- what is not among lower nodes does not occur
none_occur : (k m : ℕ) (os : List ℕ) → m ≤ k → Each (λ o. o < m) os → occurrences k os ≡ 0
unfolding occurrences
none_occur k m [] h f = refl
none_occur k m (o ∷ os) h f = ap (λ b. cond b (suc (occurrences k os)) (occurrences k os)) (ne_eqb o k (λ e. omega (arith, f.0))) ∙ none_occur k m os h f.1

pub operands_lower : (t : Counts) (operands : List ℕ) (at m : ℕ) (node : Node) → NodeFormed t operands at m node → Each (λ o. o < m) (operands_of operands node)
unfolding operands_of
operands_lower t operands at m (Atom a) f = tt
operands_lower t operands at m False f = tt
operands_lower t operands at m (Implies l r) f = (f.0, (f.1, tt))
operands_lower t operands at m (And s c) f = f.lower
operands_lower t operands at m (Or s c) f = f.lower
operands_lower t operands at m Unknown f = tt

-- an atom's list gets its Atom nodes alone
atom_entries : (t : Counts) (operands : List ℕ) (at a m : ℕ) (node : Node) → m < t.nodes → NodeFormed t operands at m node
    → entries_of (atom_slot t.nodes a) (node_items t.nodes operands m node) ≡ cond (is_atom_of a node) (m ∷ []) []
unfolding node_items operands_of
atom_entries t operands at a m (Atom b) l f = ⊎_elim same other (equal_or b a)
  where
    same : b ≡ a → entries_of (atom_slot t.nodes a) (item (atom_slot t.nodes b) m ∷ []) ≡ cond (eqb b a) (m ∷ []) []
    same e = rw (e, eq-eqb a a refl) (entries_here (atom_slot t.nodes a) m [] ∙ (unfold entries_of in refl))

    other : (b ≡ a → ⊥) → entries_of (atom_slot t.nodes a) (item (atom_slot t.nodes b) m ∷ []) ≡ cond (eqb b a) (m ∷ []) []
    other ne = entries_other (atom_slot t.nodes a) (atom_slot t.nodes b) m [] (λ e. ne (omega arith)) ∙ (unfold entries_of in rw (ne_eqb b a ne))
atom_entries t operands at a m False l f = unfold entries_of in refl
atom_entries t operands at a m (Implies x y) l f = operand_entries_lem _ m (x ∷ y ∷ []) ∙ ap (λ c. replicate c (node_reader m)) (none_occur _ m (x ∷ y ∷ []) (omega arith) (f.0, (f.1, tt)))
atom_entries t operands at a m (And s c) l f = operand_entries_lem _ m (span operands s c) ∙ ap (λ c. replicate c (node_reader m)) (none_occur _ m (span operands s c) (omega arith) f.lower)
atom_entries t operands at a m (Or s c) l f = operand_entries_lem _ m (span operands s c) ∙ ap (λ c. replicate c (node_reader m)) (none_occur _ m (span operands s c) (omega arith) f.lower)
atom_entries t operands at a m Unknown l f = unfold entries_of in refl

-- ---- one producer, one root position

single_entries : (s r e : ℕ) → entries_of s (item r e ∷ []) ≡ cond (eqb r s) (e ∷ []) []
unfolding entries_of
single_entries s r e = refl

body_entries : (k i b : ℕ) → entries_of k (body_items i b) ≡ cond (eqb b (k + 1)) (producer_reader i ∷ []) []
body_entries k i zero = rw (ne_eqb 0 (k + 1) (λ e. omega arith)) (unfold entries_of in refl)
body_entries k i (suc b) = single_entries k b (producer_reader i) ∙ ap (λ c. cond c (producer_reader i ∷ []) []) (go (eqb b k) refl)
  where
    go : (c : Bool) → eqb b k ≡ c → eqb b k ≡ eqb (suc b) (k + 1)
    go true e = e ∙ sym (eq-eqb (suc b) (k + 1) (omega (arith, eqb-true b k e)))
    go false e = e ∙ sym (ne_eqb (suc b) (k + 1) (λ q. eqb-false b k e (omega arith)))

-- ---- the lists

module _ (t : Counts) (nodes operands roots producers : List ℕ) (p : ℕ) where
  abbrev stream : List Item
  stream = incidences t nodes operands roots producers p

  abbrev of_node : ℕ → List Item
  of_node m = node_items t.nodes operands m (node_at nodes m)

  parts : (s : ℕ) → entries_of s stream
      ≡ joined (λ m. entries_of s (of_node m)) 0 t.nodes ++ (joined (λ i. entries_of s (producer_items producers i)) 0 p ++ joined (λ i. entries_of s (root_items roots i)) 0 t.roots)
  unfolding incidences
  parts s =
      entries_append s (joined of_node 0 t.nodes) (joined (producer_items producers) 0 p ++ joined (root_items roots) 0 t.roots)
      ∙ ap₂ ◌++◌ (entries_joined s of_node 0 t.nodes)
      (entries_append s (joined (producer_items producers) 0 p) (joined (root_items roots) 0 t.roots)
      ∙ ap₂ ◌++◌ (entries_joined s (producer_items producers) 0 p) (entries_joined s (root_items roots) 0 t.roots))

  -- the readers of node k
  pub readers_filtered : (k : ℕ) → k ≤ t.nodes → readers_of t nodes operands roots producers p k ≡ entries_of k stream
  unfolding readers_of reading_node producer_items root_items
  readers_filtered k l =
      sym (parts k
      ∙ ap₂ ◌++◌ (joined_agree _ (reading_node nodes operands k) 0 t.nodes (λ m a b. node_entries t.nodes operands k m (node_at nodes m) l))
      (ap₂ ◌++◌ (joined-places (λ i. eqb (get_or producers (4 * i + 1) 0) (k + 1)) producer_reader _ 0 p (λ i a b. body_entries k i (get_or producers (4 * i + 1) 0)))
      (joined-places (λ i. eqb (get_or roots i 0) k) root_reader _ 0 t.roots (λ i a b. single_entries k (get_or roots i 0) (root_reader i)))))

  module _ (h : Planned t nodes operands roots producers p) where
    -- producers and roots read nodes alone
    producers_none : (s : ℕ) → t.nodes ≤ s → joined (λ i. entries_of s (producer_items producers i)) 0 p ≡ []
    unfolding producer_items
    producers_none s l =
        joined-none _ 0 p
        (λ i a b.
        body_entries s i (get_or producers (4 * i + 1) 0)
        ∙ ap (λ c. cond c (producer_reader i ∷ []) []) (ne_eqb (get_or producers (4 * i + 1) 0) (s + 1) (λ e. omega (arith, h.body i (omega arith)))))

    roots_none : (s : ℕ) → t.nodes ≤ s → joined (λ i. entries_of s (root_items roots i)) 0 t.roots ≡ []
    unfolding root_items
    roots_none s l =
        joined-none _ 0 t.roots
        (λ i a b.
        single_entries s (get_or roots i 0) (root_reader i)
        ∙ ap (λ c. cond c (root_reader i ∷ []) []) (ne_eqb (get_or roots i 0) s (λ e. omega (arith, h.root i (omega arith)))))

    nodes_alone : (s : ℕ) → t.nodes ≤ s → entries_of s stream ≡ joined (λ m. entries_of s (of_node m)) 0 t.nodes
    nodes_alone s l =
        parts s ∙ ap₂ (λ x y. joined (λ m. entries_of s (of_node m)) 0 t.nodes ++ (x ++ y)) (producers_none s l) (roots_none s l)
        ∙ append-nil (joined (λ m. entries_of s (of_node m)) 0 t.nodes)

    -- the atom nodes of atom a
    pub atoms_filtered : (a : ℕ) → atom_nodes_of t nodes a ≡ entries_of (atom_slot t.nodes a) stream
    unfolding atom_nodes_of
    atoms_filtered a =
        sym (nodes_alone (atom_slot t.nodes a) (omega arith)
        ∙ joined-places (λ m. is_atom_of a (node_at nodes m)) (λ m. m) _ 0 t.nodes
        (λ m _ b. atom_entries t operands _ a m (node_at nodes m) (omega arith) (h.tables.formed m (omega arith)))
        ∙ map-id (places (λ m. is_atom_of a (node_at nodes m)) 0 t.nodes))

    -- nothing is listed between the nodes' lists and the atoms'
    gap_filtered : entries_of t.nodes stream ≡ []
    gap_filtered =
        nodes_alone t.nodes (omega arith)
        ∙ joined-none _ 0 t.nodes
        (λ m a b.
        node_entries t.nodes operands t.nodes m (node_at nodes m) (omega arith)
        ∙ ap (λ c. replicate c (node_reader m))
        (none_occur t.nodes m _ (omega arith) (operands_lower t operands _ m (node_at nodes m) (h.tables.formed m (omega arith)))))

    -- every list of the table is the incidences of its slot, in order
    pub readers : (s : ℕ) → list_of t nodes operands roots producers p s ≡ entries_of s stream
    unfolding list_of
    readers s = ⊎_elim node (λ l. ⊎_elim atom (λ m. gap (omega arith)) (below_or t.nodes s)) (below_or s t.nodes)
      where
        node : s < t.nodes → list_of t nodes operands roots producers p s ≡ entries_of s stream
        node l = rw (lt-ltb s t.nodes l) (readers_filtered s (omega arith))

        atom : t.nodes < s → list_of t nodes operands roots producers p s ≡ entries_of s stream
        atom l =
            let e : t.nodes + 1 + (s - (t.nodes + 1)) ≡ s = omega arith in
            rw (le-ltb s t.nodes (omega arith), lt-ltb t.nodes s l) (atoms_filtered (s - (t.nodes + 1)) ∙ ap (λ k. entries_of k stream) e)

        gap : s ≡ t.nodes → list_of t nodes operands roots producers p s ≡ entries_of s stream
        gap e = rw (e, le-ltb t.nodes t.nodes (omega arith)) (sym gap_filtered)

    -- so the table is the incidences laid by their slots
    pub lists_laid : laid (λ s. list_of t nodes operands roots producers p s) (slots t) ≡ laid (λ s. entries_of s stream) (slots t)
    lists_laid = laid_agree _ (λ s. entries_of s stream) (slots t) (λ s l. readers s)
