-- The lowest set digit of a word, its first place, is taken off by `and` with the number before it.
-- Assumes nothing.
use Rattle.std.specs.Prelude.{ℕ, zero, suc, ◌<◌, ◌-◌, ◌/◌, ◌%◌, ◌^◌, ◌≡◌, refl, true, ◌∷◌}
use Rattle.std.proofs.Common.{div-add-mod', div-one, one-mul, add-one, one-add, arith, ap, sym, ◌∙◌, shr_lt, eqb-true}
use Rattle.std.proofs.Math.Nat.{max-zero}
use Rattle.std.proofs.Math.Arith.{lt-one}
use Rattle.std.specs.Int.Bits.{bit_and, bit_or, bit_xor, and_self, and_step, or_step, or_zero_r, xor_step, xor_zero_r, shifted_half, shifted_even}
use Rattle.std.proofs.lemmas.Nat.{and_le_l}
use Rattle.std.specs.Int.Count.{count_trailing_zeros, under}
use Rattle.base.specs.Tests.{both_left}
use Rattle.base.specs.Places.{places}
use Rattle.words.specs.Bit.{bit}
use Rattle.words.specs.BitLaws.{bit_shift, bit_and_lem, trailing_set, places_trailing}

digit : (x i : ℕ) → bit x i ≡ true → x / 2 ^ i % 2 ≡ 1
unfolding bit
digit x i e = eqb-true (x / 2 ^ i % 2) 1 e

power_half : (i : ℕ) → 2 ^ suc i / 2 ≡ 2 ^ i
power_half i = ap (λ (y : ℕ). y / 2) (sym (one-mul (2 ^ suc i))) ∙ shifted_half 1 i ∙ one-mul (2 ^ i)

power_even : (i : ℕ) → 2 ^ suc i % 2 ≡ 0
power_even i = ap (λ (y : ℕ). y % 2) (sym (one-mul (2 ^ suc i))) ∙ shifted_even 1 i

-- a digit that is set already
or_set : (x i : ℕ) → bit x i ≡ true → bit_or x (2 ^ i) ≡ x
or_set x zero e =
    let d : x % 2 ≡ 1 = ap (λ (y : ℕ). y % 2) (sym (div-one x)) ∙ digit x zero e in
    or_step x 1 ∙ rw (d, or_zero_r (x / 2)) (omega (arith, d))
or_set x (suc i) e =
    let b : bit x (suc i) ≡ bit (x / 2) i = rw (← one-add i) (sym (bit_shift x 1 i)) in
    or_step x (2 ^ suc i) ∙ rw (power_half i, power_even i, or_set (x / 2) i (sym b ∙ e), max-zero (x % 2)) (div-add-mod' x 2)

-- `x & (x - 1)` turns the lowest set digit
lowest_off : (w x : ℕ) → 0 < x → x < 2 ^ w → bit_and x (x - 1) ≡ bit_xor x (2 ^ count_trailing_zeros w x)
unfolding count_trailing_zeros
lowest_off zero x p h = absurd (omega (arith, lt-one h))
lowest_off (suc w) x p h = go (x % 2) refl (λ q. lowest_off w (x / 2) q (shr_lt w 1 (rw add-one h)))
  where
    go : (d : ℕ) → x % 2 ≡ d → (0 < x / 2 → bit_and (x / 2) (x / 2 - 1) ≡ bit_xor (x / 2) (2 ^ count_trailing_zeros w (x / 2)))
        → bit_and x (x - 1) ≡ bit_xor x (2 ^ under d (count_trailing_zeros w (x / 2)))
    go zero e ih =
        let t = count_trailing_zeros w (x / 2) in
        let a : (x - 1) / 2 ≡ x / 2 - 1 = omega (arith, e) in
        let b : (x - 1) % 2 ≡ 1 = omega (arith, e) in
        and_step x (x - 1) ∙ rw (a, b, e, ih (omega (arith, e)))
        (sym (xor_step x (2 ^ suc t) ∙ rw (power_half t, power_even t, e)))
    go (suc zero) e ih =
        let a : (x - 1) / 2 ≡ x / 2 = omega (arith, e) in
        let b : (x - 1) % 2 ≡ 0 = omega (arith, e) in
        and_step x (x - 1) ∙ rw (a, b, e, and_self (x / 2)) (sym (xor_step x 1 ∙ rw (e, xor_zero_r (x / 2))))
    go (suc (suc d)) e ih = absurd (omega arith)

-- as the code stores it
pub digit_off : (w x : ℕ) → 0 < x → x < 2 ^ w → bit_and x (x - 1) ≡ bit_xor (bit_or x (2 ^ count_trailing_zeros w x)) (2 ^ count_trailing_zeros w x)
digit_off w x p h = lowest_off w x p h ∙ rw (or_set x (count_trailing_zeros w x) (trailing_set w x p h))

-- the first place is taken off, and the others are left
pub places_off : (w x : ℕ) → 0 < x → x < 2 ^ w → places (bit x) 0 w ≡ count_trailing_zeros w x ∷ places (bit (bit_and x (x - 1))) 0 w
places_off w x p h = rw (lowest_off w x p h) (places_trailing w x p h)

pub off_small : (w x : ℕ) → x < 2 ^ w → bit_and x (x - 1) < 2 ^ w
off_small w x h = omega (arith, and_le_l x (x - 1))

-- a digit that is set then was set before
pub off_set : (x k : ℕ) → bit (bit_and x (x - 1)) k ≡ true → bit x k ≡ true
off_set x k e = both_left (bit x k) (bit (x - 1) k) (sym (bit_and_lem x (x - 1) k) ∙ e)
