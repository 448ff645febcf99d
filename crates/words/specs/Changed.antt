-- At how many places two words differ.
-- Assumes nothing.
use Rattle.std.specs.Prelude.{ℕ, Bool, true, false, not}
use Rattle.base.specs.Places.{count}
use Rattle.words.specs.Bit.{bit}

abbrev pub unlike : Bool → Bool → Bool
unlike true b = not b
unlike false b = b

-- how many of the w lowest digits differ between a and b
unfoldable pub changed : ℕ → ℕ → ℕ → ℕ
changed w a b = count (λ k. unlike (bit a k) (bit b k)) 0 w
