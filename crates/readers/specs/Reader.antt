-- A packed reader: its tag in the top two bits of a u64, its index below; 0 node, 2 producer, 3 root, and 1 is never made.
-- Assumes nothing.
use Rattle.std.specs.Prelude.{ℕ, zero, suc, ◌+◌, ◌*◌, ◌/◌, ◌%◌, ◌^◌, ◌<◌, ◌≡◌}
use Rattle.std.proofs.Common.{ap₂}
use Rattle.std.proofs.Math.Arith.{digits_div, digits_mod}
use Rattle.readers.specs.declared.Reading.{Reading}
use Rattle.readers.specs.declared.Reading.TheVariants.{Node, Producer, Root, Unknown}

unfoldable pub packed : ℕ → ℕ → ℕ
packed tag index = tag * 2 ^ 62 + index

-- the words of node i, of producer i and of root position i as readers
abbrev pub node_reader : ℕ → ℕ
node_reader i = packed 0 i

abbrev pub producer_reader : ℕ → ℕ
producer_reader i = packed 2 i

abbrev pub root_reader : ℕ → ℕ
root_reader i = packed 3 i

abbrev pub by_tag : ℕ → ℕ → Reading
by_tag zero i = Node i
by_tag (suc zero) i = Unknown
by_tag (suc (suc zero)) i = Producer i
by_tag (suc (suc (suc zero))) i = Root i
by_tag (suc (suc (suc (suc n)))) i = Unknown

-- what a word says
unfoldable pub reading_of : ℕ → Reading
reading_of x = by_tag (x / 2 ^ 62) (x % 2 ^ 62)

-- what was packed is read
pub packed_read : (tag i : ℕ) → i < 2 ^ 62 → reading_of (packed tag i) ≡ by_tag tag i
unfolding reading_of packed
packed_read tag i h = ap₂ by_tag (digits_div tag h) (digits_mod tag h)
