-- A list of u64 words as u32 words.
-- Assumes nothing.
use Rattle.std.specs.Prelude.{ℕ, ◌<◌, ◌+◌, ◌-◌, ◌*◌, ◌/◌, ◌%◌, ◌^◌, ◌≡◌, refl, List, eqb, get_or}
use Rattle.std.proofs.Common.{arith, mod-lt, ap, ap₂, ◌∙◌, pow_pos}
use Rattle.std.proofs.Math.Pow.{field, mod-mod-pow}
use Rattle.words.specs.Bit.{bit}
use Rattle.words.specs.BitLaws.{bit_shift}
use Rattle.words.specs.Sets.{member}

-- half i of a list of u64 words: the low one of word i / 2 if i is even, else the high one
unfoldable pub half : List ℕ → ℕ → ℕ
half ws i = get_or ws (i / 2) 0 / 2 ^ (i % 2 * 32) % 2 ^ 32

pub digit_low : (y j : ℕ) → j < 32 → bit (y % 2 ^ 32) j ≡ bit y j
unfolding bit
digit_low y j l =
    let e : 32 ≡ 31 - j + 1 + j = omega arith in
    ap (λ d. eqb d 1) (ap (λ n. y % 2 ^ n / 2 ^ j % 2) e ∙ ap (λ z. z % 2) (field y (31 - j + 1) j) ∙ mod-mod-pow (y / 2 ^ j) (31 - j) 1)

pub half-bit : (ws : List ℕ) (j : ℕ) → bit (half ws (j / 32)) (j % 32) ≡ member 64 ws j
unfolding half member
half-bit ws j =
    digit_low (get_or ws (j / 32 / 2) 0 / 2 ^ (j / 32 % 2 * 32)) (j % 32) (omega arith)
    ∙ bit_shift (get_or ws (j / 32 / 2) 0) (j / 32 % 2 * 32) (j % 32)
    ∙ ap₂ (λ q r. bit (get_or ws q 0) r) word place
  where
    word : j / 32 / 2 ≡ j / 64
    word = omega arith

    place : j / 32 % 2 * 32 + j % 32 ≡ j % 64
    place = omega arith

pub half_small : (ws : List ℕ) (i : ℕ) → half ws i < 2 ^ 32
unfolding half
half_small ws i = mod-lt (get_or ws (i / 2) 0 / 2 ^ (i % 2 * 32)) (pow_pos 32)

-- as the code reads it
pub half_read : (ws : List ℕ) (i : ℕ) → get_or ws (i / 2) 0 / 2 ^ (i % 2 * 32) % 4294967296 ≡ half ws i
unfolding half
half_read ws i = refl
