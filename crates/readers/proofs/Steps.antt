-- What a word says, and which items the node, the body or the root at hand makes.
-- Assumes nothing.
use Prim.Native.Nat.{ℕ, zero, suc, ◌+◌, ◌-◌, ◌*◌, ◌/◌, ◌%◌, ◌^◌, ◌<◌, ◌≤◌}
use native.Mathlib.Nat.{zero-add, add-zero}
use native.Mathlib.Omega.{arith}
use mathlib.Core.Path.{◌≡◌, refl, ap, ap₂, sym, ◌∙◌}
use mathlib.Core.Logic.{◌⊎◌, inl, inr}
use mathlib.Core.List.{List, [], ◌∷◌, map}
use lib.Bits.{bit_xor, xor_block, xor_zero_r, xor_self, xor_add_and, and_le_l, and_le_r}
use lib.ListN.{length, get_or, take}
use lib.Seq.{length-take-le, get_or-take}
use Rattle.theory.specs.Node.{node_at, span, operands_of}
use Rattle.theory.specs.declared.Node.{Node}
use Rattle.theory.specs.declared.Node.TheVariants.{Atom, False, Implies, And, Or, Unknown}
use Rattle.readers.specs.Incidences.{Item, item, atom_slot, operand_items, node_items, body_items, producer_items, root_items}
use Rattle.readers.specs.Joined.{joined, joined_agree}
use Rattle.readers.specs.Laid.{part}
use Rattle.readers.specs.Reader.{node_reader, producer_reader, root_reader, by_tag, reading_of}
use Rattle.readers.specs.ReaderLaws.{tag_of, index_of, read-parts}
use Rattle.readers.specs.declared.Reading.{Reading}
use Rattle.readers.specs.declared.Reading.TheVariants as reading

pub length_items : (k : ℕ) (os : List ℕ) → length (operand_items k os) ≡ length os
unfolding operand_items
length_items k [] = refl
length_items k (o ∷ os) = ap suc (length_items k os)

-- the items of the node at hand
module _ (n : ℕ) (nodes operands : List ℕ) (k : ℕ) (view : Node) (p : view ≡ node_at nodes k) where
  abbrev here : List Item
  here = node_items n operands k (node_at nodes k)

  known : (node : Node) → view ≡ node → here ≡ node_items n operands k node
  known node q = ap (node_items n operands k) (sym p ∙ q)

  pub atom_items : (a : ℕ) → view ≡ Atom a → here ≡ item (atom_slot n a) k ∷ []
  unfolding node_items
  atom_items a q = known (Atom a) q

  pub no_items : (view ≡ False) ⊎ (view ≡ Unknown) → here ≡ []
  unfolding node_items
  no_items = elim [ inl q ↦ known False q | inr q ↦ known Unknown q ]

  pub implies_items : (l r : ℕ) → view ≡ Implies l r → here ≡ item l (node_reader k) ∷ item r (node_reader k) ∷ []
  unfolding node_items operand_items operands_of
  implies_items l r q = known (Implies l r) q

  pub group_items : (s c : ℕ) → (view ≡ And s c) ⊎ (view ≡ Or s c) → here ≡ map (λ o. item o (node_reader k)) (part operands s (s + c))
  unfolding node_items operand_items operands_of span
  group_items s c q =
      let e : s + c - s ≡ c = omega arith in
      rw e (elim q [ inl a ↦ known (And s c) a | inr o ↦ known (Or s c) o ])

-- a producer's second word at hand
module _ (producers : List ℕ) (i word : ℕ) (p : word ≡ get_or producers (4 * i + 1) 0) where
  pub body_none : (1 ≤ word → ⊥) → producer_items producers i ≡ []
  unfolding producer_items
  body_none none = let z : word ≡ 0 = omega arith in rw (← p, z)

  pub body_one : (b e : ℕ) → (1 ≤ word) × (b ≡ word - 1) → e ≡ producer_reader i → producer_items producers i ≡ item b e ∷ []
  unfolding producer_items
  body_one b e some q = let more : word ≡ suc b = omega (arith, some.0, some.1) in ap (body_items i) (sym p ∙ more) ∙ rw q

pub root_one : (roots : List ℕ) (i o e : ℕ) → o ≡ get_or roots i 0 → e ≡ root_reader i → root_items roots i ≡ item o e ∷ []
unfolding root_items
root_one roots i o e p q = rw (p, q)

pub roots_part : (roots : List ℕ) (n : ℕ) → n ≤ length roots → joined (root_items (take n roots)) 0 (length (take n roots)) ≡ joined (root_items roots) 0 n
unfolding root_items
roots_part roots n l =
    ap (joined (root_items (take n roots)) 0) (length-take-le n roots l)
    ∙ joined_agree (root_items (take n roots)) (root_items roots) 0 n (λ k a b. ap (λ r. item r (root_reader k) ∷ []) (get_or-take n roots k 0 (omega arith)))

-- a word with the tag at hand
pub read_as : (x tag : ℕ) (r : Reading) → x / 2 ^ 62 ≡ tag → r ≡ by_tag tag (x % 2 ^ 62) → r ≡ reading_of x
unfolding reading_of
read_as x tag r e q = rw e q

pub other_tag : (tag i : ℕ) → (tag ≡ 0 → ⊥) → (tag ≡ 2 → ⊥) → (tag ≡ 3 → ⊥) → reading.Unknown ≡ by_tag tag i
other_tag zero i a b c = absurd (a refl)
other_tag (suc zero) i a b c = refl
other_tag (suc (suc zero)) i a b c = absurd (b refl)
other_tag (suc (suc (suc zero))) i a b c = absurd (c refl)
other_tag (suc (suc (suc (suc n)))) i a b c = refl

-- ---- a word less the tag t

parts : (x t : ℕ) → bit_xor x (t * 2 ^ 62) ≡ bit_xor (x / 2 ^ 62) t * 2 ^ 62 + x % 2 ^ 62
parts x t =
    let whole : x ≡ x / 2 ^ 62 * 2 ^ 62 + x % 2 ^ 62 = omega arith in
    ap₂ bit_xor whole (sym (add-zero (t * 2 ^ 62)))
    ∙ xor_block 62 (x / 2 ^ 62) t (x % 2 ^ 62) 0 (omega arith) (omega arith)
    ∙ ap (λ l. bit_xor (x / 2 ^ 62) t * 2 ^ 62 + l) (xor_zero_r (x % 2 ^ 62))

same_tag : (a b : ℕ) → bit_xor a b ≡ 0 → a ≡ b
same_tag a b z = omega (arith, z, xor_add_and a b, and_le_l a b, and_le_r a b)

pub tag_is : (x t : ℕ) → bit_xor x (t * 2 ^ 62) < 2 ^ 62 → reading_of x ≡ by_tag t (bit_xor x (t * 2 ^ 62))
unfolding reading_of
tag_is x t l =
    let none : bit_xor (x / 2 ^ 62) t ≡ 0 = omega (arith, parts x t) in
    ap₂ by_tag (same_tag (x / 2 ^ 62) t none) (sym (parts x t ∙ rw none (zero-add (x % 2 ^ 62))))

pub index_is : (x : ℕ) (r : Reading) → reading_of x ≡ r → (tag_of r ≡ 1 → ⊥) → bit_xor x (tag_of r * 2 ^ 62) ≡ index_of r
index_is x r h ne =
    let p = read-parts x r h ne in
    parts x (tag_of r) ∙ rw (p.0, xor_self (tag_of r)) (zero-add (x % 2 ^ 62)) ∙ p.1
