-- What each branch on a reader gives: the reader was told, or it is a 17.
-- Assumes nothing.
use Rattle.std.specs.Prelude.{ℕ, ◌<◌, ◌≤◌, ◌≡◌, refl, Bool, ltb, List, None}
use Rattle.std.proofs.Common.{zero-add, arith, ap, ◌∙◌}
use Rattle.std.proofs.Math.Path.{sym}
use Rattle.std.proofs.Math.Bool.{and-false}
use borrow.Author.Tests.{lt-ltb, le-ltb}
use Rattle.readers.specs.declared.Reading.{Reading}
use Rattle.readers.specs.Reader.{packed, reading_of, packed_read}
use Rattle.readers.specs.ReaderLaws.{read-parts}
use Rattle.readers.specs.declared.Reading.TheVariants.{Node, Producer, Root, Unknown}
use Rattle.kept.specs.Tables.{Tables, atom_count, node_count, root_count, head_at}
use Rattle.kept.specs.Evaluation.{Evaluation}
use Rattle.kept.specs.Step.{entered, support_moved, root_turned, reader_updated}
use Rattle.kept.specs.Layout.{of_words}
use Rattle.kept_laws.specs.Wrote.{Wrote, beside_same, wrote_none, Changing, out_of_range}

-- a word below the number of nodes is that node
pub small_read : (word n : ℕ) → word < n → n ≤ 262144 → reading_of word ≡ Node word
unfolding packed
small_read word n l h = ap reading_of (sym (zero-add word)) ∙ packed_read 0 word (omega arith)

-- a node that is read has its word's number
node_read : (word m : ℕ) → reading_of word ≡ Node m → m ≡ word
node_read word m h = let p = read-parts word (Node m) h (λ z. omega (arith, z)) in omega (arith, p.0, p.1)

-- the word reads x, which the code found as r
module _ (T : Tables) (ws : List ℕ) (k : ℕ) (t : Bool) (x r : Reading) (is : r ≡ x) where
  abbrev e : Evaluation
  e = of_words T ws

  refused : reader_updated T k t e x ≡ None → Wrote T ws (reader_updated T k t e x) out_of_range ws
  refused h = wrote_none T ws (reader_updated T k t e x) ws h (beside_same T ws)

  -- a node that is not above k, or no node
  pub node_below : (m : ℕ) → r ≡ Node m → m ≤ k → Wrote T ws (reader_updated T k t e x) out_of_range ws
  unfolding reader_updated
  node_below m p l = refused (rw (sym is ∙ p, le-ltb k m l))

  node_past : (m : ℕ) → r ≡ Node m → node_count T ≤ m → Wrote T ws (reader_updated T k t e x) out_of_range ws
  unfolding reader_updated
  node_past m p h = refused (rw (sym is ∙ p, le-ltb m (node_count T) h, and-false (ltb k m)))

  pub node_told : (m : ℕ) → r ≡ Node m → k < m → m < node_count T → (ok : Changing) (after : List ℕ) → Wrote T ws (entered T m e) ok after
      → Wrote T ws (reader_updated T k t e x) ok after
  unfolding reader_updated
  node_told m p l h ok after w = rw (sym is ∙ p, lt-ltb k m l, lt-ltb m (node_count T) h) w

  -- no producer, or one whose head a is no atom
  producer_past : (p : ℕ) → r ≡ Producer p → T.made ≤ p → Wrote T ws (reader_updated T k t e x) out_of_range ws
  unfolding reader_updated
  producer_past p q l = refused (rw (sym is ∙ q, le-ltb p T.made l))

  pub head_past : (p a : ℕ) → r ≡ Producer p → p < T.made → a ≡ head_at T p → atom_count T ≤ a → Wrote T ws (reader_updated T k t e x) out_of_range ws
  unfolding reader_updated
  head_past p a q l s h = refused (rw (sym is ∙ q, lt-ltb p T.made l, sym s, le-ltb a (atom_count T) h))

  pub producer-told : (p a : ℕ) → r ≡ Producer p → p < T.made → a ≡ head_at T p → a < atom_count T → (ok : Changing) (after : List ℕ)
      → Wrote T ws (support_moved T t a e) ok after → Wrote T ws (reader_updated T k t e x) ok after
  unfolding reader_updated
  producer-told p a q l s h ok after w = rw (sym is ∙ q, lt-ltb p T.made l, sym s, lt-ltb a (atom_count T) h) w

  root_past : (p : ℕ) → r ≡ Root p → root_count T ≤ p → Wrote T ws (reader_updated T k t e x) out_of_range ws
  unfolding reader_updated
  root_past p q l = refused (rw (sym is ∙ q, le-ltb p (root_count T) l))

  pub root_told : (p : ℕ) → r ≡ Root p → p < root_count T → (ok : Changing) (after : List ℕ) → Wrote T ws (root_turned T t p e) ok after
      → Wrote T ws (reader_updated T k t e x) ok after
  unfolding reader_updated
  root_told p q l ok after w = rw (sym is ∙ q, lt-ltb p (root_count T) l) w

  unknown : r ≡ Unknown → Wrote T ws (reader_updated T k t e x) out_of_range ws
  unfolding reader_updated
  unknown q = refused (rw (sym is ∙ q))

  -- none of those
  pub no_reader : (word p q : ℕ) → x ≡ reading_of word → node_count T ≤ word → ((i : ℕ) → reading_of word ≡ Producer i → p ≡ i) → T.made ≤ p
      → ((i : ℕ) → reading_of word ≡ Root i → q ≡ i) → root_count T ≤ q → Wrote T ws (reader_updated T k t e x) out_of_range ws
  no_reader word p q h n f a g b = go x refl
    where
      go : (y : Reading) → x ≡ y → Wrote T ws (reader_updated T k t e x) out_of_range ws
      go (Node m) j = node_past m (is ∙ j) (omega (arith, node_read word m (sym h ∙ j)))
      go (Producer i) j = producer_past i (is ∙ j) (omega (arith, f i (sym h ∙ j)))
      go (Root i) j = root_past i (is ∙ j) (omega (arith, g i (sym h ∙ j)))
      go Unknown j = unknown (is ∙ j)
