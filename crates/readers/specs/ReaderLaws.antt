-- The tag and the index that a reader's word has by what it says.
-- Assumes nothing.
use Rattle.std.specs.Prelude.{ℕ, zero, suc, ◌/◌, ◌%◌, ◌^◌, ◌≡◌, refl}
use Rattle.std.proofs.Common.{ap, sym, ◌∙◌}
use Rattle.readers.specs.Reader.{by_tag, reading_of}
use Rattle.readers.specs.declared.Reading.{Reading}
use Rattle.readers.specs.declared.Reading.TheVariants.{Node, Producer, Root, Unknown}

abbrev pub tag_of : Reading → ℕ
tag_of (Node i) = 0
tag_of Unknown = 1
tag_of (Producer i) = 2
tag_of (Root i) = 3

abbrev pub index_of : Reading → ℕ
index_of (Node i) = i
index_of Unknown = 0
index_of (Producer i) = i
index_of (Root i) = i

pub read-parts : (x : ℕ) (r : Reading) → reading_of x ≡ r → (tag_of r ≡ 1 → ⊥) → (x / 2 ^ 62 ≡ tag_of r) × (x % 2 ^ 62 ≡ index_of r)
unfolding reading_of
read-parts x r h ne = go (x / 2 ^ 62) refl h
  where
    go : (tag : ℕ) → x / 2 ^ 62 ≡ tag → by_tag tag (x % 2 ^ 62) ≡ r → (x / 2 ^ 62 ≡ tag_of r) × (x % 2 ^ 62 ≡ index_of r)
    go zero t e = (t ∙ ap tag_of e, ap index_of e)
    go (suc zero) t e = absurd (ne (sym (ap tag_of e)))
    go (suc (suc zero)) t e = (t ∙ ap tag_of e, ap index_of e)
    go (suc (suc (suc zero))) t e = (t ∙ ap tag_of e, ap index_of e)
    go (suc (suc (suc (suc n)))) t e = absurd (ne (sym (ap tag_of e)))
