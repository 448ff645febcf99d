-- A set with its count inside lent words: its words begin at a place, its count is one word.
-- Assumes nothing.
use Rattle.std.specs.Prelude.{ℕ, ◌+◌, ◌/◌, ◌%◌, ◌^◌, ◌≡◌, Bool, true, false, cond, List, get_or, set, Option, Some, None}
use Rattle.std.specs.Int.Bits.{bit_or, bit_xor}
use Rattle.words.specs.Bit.{bit}
use Rattle.words.specs.Changed.{unlike}
use Rattle.kept.specs.CountedSet.{and_then, moved}
use Rattle.kept_laws.specs.Wrote.{Changing, done, out_of_range}

-- digit k of the word set or not
abbrev pub digit_put : ℕ → ℕ → Bool → ℕ
digit_put word k true = bit_or word (2 ^ k)
digit_put word k false = bit_xor (bit_or word (2 ^ k)) (2 ^ k)

-- i in the set or not
unfoldable pub bit_put : ℕ → ℕ → Bool → List ℕ → List ℕ
bit_put at i x ws = set ws (at + i / 32) (digit_put (get_or ws (at + i / 32) 0) (i % 32) x)

-- with its count, which is `most` at most; none: it would leave its range
unfoldable pub member_put : ℕ → ℕ → ℕ → ℕ → Bool → List ℕ → Option (List ℕ)
member_put at size most i x ws =
    cond (unlike (bit (get_or ws (at + i / 32) 0) (i % 32)) x) (and_then (moved most x (get_or ws size 0)) (λ n. Some (set (bit_put at i x ws) size n))) (Some ws)

-- a call left these words, and said so; or it left them as they were
abbrev pub Put : List ℕ → Option (List ℕ) → Changing → List ℕ → Type 0
Put ws None ok after = (ok ≡ out_of_range) × (after ≡ ws)
Put ws (Some w) ok after = (ok ≡ done) × (after ≡ w)
