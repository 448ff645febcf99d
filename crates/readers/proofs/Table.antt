-- The reader table: what the passes of `build` leave, and what its lists are once it is built.
-- Assumes nothing.
use Prim.Native.Nat.{ℕ, ◌+◌, ◌-◌, ◌^◌, ◌<◌, ◌≤◌}
use native.Mathlib.Omega.{arith}
use mathlib.Core.Path.{◌≡◌, ap, sym, ◌∙◌}
use mathlib.Core.List.{List, ◌++◌}
use lib.ListN.{length, drop, length-append, length-drop}
use lib.Seq.{drop-drop}
use borrow.Author.Tests.{lt-ltb, le-ltb}
use Rattle.theory.specs.declared.Counts.{Counts}
use Rattle.readers.specs.Laid.{start_of, laid, laid_over, list_at, InOrder}
use Rattle.readers.specs.LaidLaws.{length-laid, list_there, in_order_there, in_order_more, start_least}
use Rattle.readers.specs.Incidences.{Item, atom_slot, incidences, entries_of}
use Rattle.readers.specs.Readers.{readers_of}
use Rattle.readers.specs.AtomNodes.{atom_nodes_of}
use Rattle.readers.specs.ReaderTable.{list_of, slots, reader_words, built}
use Rattle.readers.specs.Planned.{Planned}
use Rattle.readers.specs.Placement.{Head, total, Zero, Counted, Summed, Started}
use Rattle.readers.specs.Pass.{counted_all, CountFits, placed_all, PlaceFits}
use Rattle.readers.proofs.Below.{all-below}
use Rattle.readers.proofs.Few.{incidences_few, lists_room}
use Rattle.readers.proofs.Placement.{count_none, count_pass, place_none, place_pass, total_start, head_map, head_self}
use Rattle.readers.proofs.Readers.{lists_laid}

drop-later : (a b : ℕ) (xs ys : List ℕ) → a ≤ b → drop a xs ≡ drop a ys → drop b xs ≡ drop b ys
drop-later a b xs ys h e =
    let s : b ≡ a + (b - a) = omega arith in
    rw s (sym (drop-drop (b - a) a xs) ∙ ap (drop (b - a)) e ∙ drop-drop (b - a) a ys)

-- ---- between the passes

-- counts become starts
pub sums_start : (all : List Item) (n : ℕ) (xs ys zs : List ℕ) → Head n (n + 1) (Counted all) xs ys → Head n (n + 1) (Summed ys n) ys zs
    → Head n (n + 1) (Started all n) zs zs
sums_start all n xs ys zs h k =
    head_self n (n + 1) _ ys zs (head_map n (n + 1) _ _ ys zs (λ s x l e. e ∙ total_start all n ys h.each s (omega arith)) k)

module _ (t : Counts) (nodes operands roots producers : List ℕ) (p : ℕ) (planned : Planned t nodes operands roots producers p) where
  abbrev all : List Item
  all = incidences t nodes operands roots producers p

  -- the words that count can count all incidences
  module _ (before words : List ℕ) (room : slots t + 1 ≤ length before) (h : Head (slots t) (slots t + 1) Zero before words) where
    counting : CountFits all words × Head (slots t) (slots t + 1) (Counted all) before (counted_all all words)
    counting =
        count_pass (slots t) all all before words (all-below t nodes operands roots producers p planned) room
        (omega (arith, incidences_few t nodes operands roots producers p planned, planned.limited.nodes, planned.limited.operands, planned.limited.roots))
        (count_none (slots t) all before words h)

    pub counts_fit : CountFits all words
    counts_fit = counting.0

    pub counts_are : (out : List ℕ) → out ≡ counted_all all words → Head (slots t) (slots t + 1) (Counted all) before out
    counts_are out e = rw e counting.1

  -- each incidence has a place, and with all placed the table is laid
  pub places_fit : (words : List ℕ) → reader_words t ≤ length words → Head (slots t) (slots t + 1) (Started all (slots t)) words words
      → PlaceFits all words × (placed_all all words ≡ laid_over (λ s. entries_of s all) (slots t) words)
  places_fit words room h =
      place_pass all (slots t) all words words (all-below t nodes operands roots producers p planned)
      (omega (arith, lists_room t nodes operands roots producers p planned)) (place_none all (slots t) words h)

  pub sums_fit : (xs ys : List ℕ) → Head (slots t) (slots t + 1) (Counted all) xs ys → slots t + 1 + total ys (slots t) < 2 ^ 62
  sums_fit xs ys h =
      omega (
        arith,
        total_start all (slots t) ys h.each (slots t) (omega arith),
        lists_room t nodes operands roots producers p planned,
        planned.limited.atoms,
        planned.limited.nodes,
        planned.limited.operands,
        planned.limited.roots,
      )

  -- the passes leave the table built
  pub passes_build : (xs counted summed words : List ℕ) → Head (slots t) (slots t + 1) (Counted all) xs counted
      → Head (slots t) (slots t + 1) (Summed counted (slots t)) counted summed → words ≡ laid_over (λ s. entries_of s all) (slots t) summed
      → words ≡ built t nodes operands roots producers p xs
  unfolding laid_over built
  passes_build xs counted summed words b c e =
      e ∙ rw (lists_laid t nodes operands roots producers p planned)
      (ap (λ r. laid (λ s. entries_of s all) (slots t) ++ r)
      (drop-later (slots t + 1) (length (laid (λ s. entries_of s all) (slots t))) summed xs
      (omega (arith, length-laid (λ s. entries_of s all) (slots t), start_least (λ s. entries_of s all) (slots t) (slots t)))
      (c.behind ∙ b.behind)))

-- ---- once built

module _ (t : Counts) (nodes operands roots producers : List ℕ) (p : ℕ) (old words : List ℕ) (q : words ≡ built t nodes operands roots producers p old) where
  abbrev lists : ℕ → List ℕ
  lists s = list_of t nodes operands roots producers p s

  front : words ≡ laid lists (slots t) ++ drop (length (laid lists (slots t))) old
  unfolding built laid_over
  front = q

  -- the part of node k is its readers
  pub built-readers : (k : ℕ) → k < t.nodes → list_at words k ≡ readers_of t nodes operands roots producers p k
  unfolding list_of
  built-readers k l = list_there lists (slots t) words _ front k (omega arith) ∙ rw (lt-ltb k t.nodes l)

  -- the part of atom a is its Atom nodes
  pub built_atoms : (a : ℕ) → a < t.atoms → list_at words (atom_slot t.nodes a) ≡ atom_nodes_of t nodes a
  unfolding list_of
  built_atoms a l =
      let e : t.nodes + 1 + a - (t.nodes + 1) ≡ a = omega arith in
      list_there lists (slots t) words _ front (atom_slot t.nodes a) (omega arith)
      ∙ rw (le-ltb (atom_slot t.nodes a) t.nodes (omega arith), lt-ltb t.nodes (atom_slot t.nodes a) (omega arith), e)

  lists_within : Planned t nodes operands roots producers p → start_of lists (slots t) (slots t) ≤ reader_words t
  lists_within planned =
      omega (
        arith,
        lists_room t nodes operands roots producers p planned,
        length-laid lists (slots t),
        length-laid (λ r. entries_of r (incidences t nodes operands roots producers p)) (slots t),
        ap length (lists_laid t nodes operands roots producers p planned),
      )

  -- every two starts are in order and within the words that a lent table must have
  pub built-in_order : Planned t nodes operands roots producers p → (s : ℕ) → s < slots t → InOrder words (reader_words t) s
  built-in_order planned s l =
      in_order_more words (start_of lists (slots t) (slots t)) (reader_words t) s (lists_within planned) (in_order_there lists (slots t) words _ front s l)

  pub built-length : Planned t nodes operands roots producers p → reader_words t ≤ length old → length words ≡ length old
  built-length planned h =
      omega (
        arith,
        ap length front,
        length-append (laid lists (slots t)) (drop (length (laid lists (slots t))) old),
        length-drop (length (laid lists (slots t))) old,
        length-laid lists (slots t),
        lists_within planned,
      )

  -- so list s may be taken
  pub built_ready : Planned t nodes operands roots producers p → reader_words t ≤ length old → (s : ℕ) → s < slots t → (s + 1 < length words) × InOrder words (length words) s
  built_ready planned h s l =
      let e = built-length planned h in
      (omega (arith, e), in_order_more words (reader_words t) (length words) s (omega (arith, e)) (built-in_order planned s l))
