-- Laws of digits: shifts, or, and, xor and powers of two; the counts of a word's digits by its places.
-- Assumes nothing.
use Prim.Native.Nat.{ℕ, zero, suc, ◌+◌, ◌*◌, ◌/◌, ◌%◌, ◌^◌, ◌≤◌, ◌<◌, min, max}
use Rattle.std.proofs.Math.Nat.{mod-lt, div_self, div-eq_of_lt, zero-div, add-zero, mul-add-mod_self_right}
use Rattle.std.proofs.Common.{div-one, zero-lt-suc, zero-add, one-mul, lt_of_lt_of_le, add-one, one-add, sym, ◌∙◌, ⊎_elim, lit<, pow_pos, pow_mono, shr_lt, shr-shr, shl_exact, eq-eqb, ne_eqb}
use native.Mathlib.Omega.{arith}
use Rattle.std.specs.Prelude.{◌≡◌, Bool, true, false, ◌&&◌, ◌||◌, ◌∷◌}
use Rattle.std.proofs.Math.Path.{refl, ap}
use Rattle.std.proofs.Math.Dec.{eqb}
use Rattle.std.proofs.Math.Arith.{lt-one}
use Rattle.std.specs.Int.Bits.{bit_and, bit_or, bit_xor, differ, and_step, or_step, xor_step, shifted_half, shifted_even}
use Rattle.std.proofs.lemmas.Nat.{and_shr, or_shr, xor_shr, xor_lt}
use Rattle.std.specs.Int.Count.{ones, ones_step, count_trailing_zeros, under}
use Rattle.base.specs.Tests.{equal_or}
use Rattle.base.specs.Places.{places, places-yes, places_no, places_first, count, count_agree, lowest, lowest_here, lowest_past, lowest_is, lowest-only, Lowest}
use Rattle.words.specs.Bit.{bit}
use Rattle.words.specs.Changed.{unlike, changed}

two_pos : zero < 2
two_pos = zero-lt-suc 1

unlike_false : (b : Bool) → unlike b false ≡ b
unlike_false true = refl
unlike_false false = refl

-- ---- a digit of a shifted word

pub bit_shift : (x j k : ℕ) → bit (x / 2 ^ j) k ≡ bit x (j + k)
unfolding bit
bit_shift x j k = ap (λ (y : ℕ). eqb (y % 2) 1) (shr-shr x j k)

bit-suc : (x k : ℕ) → bit x (suc k) ≡ bit (x / 2) k
bit-suc x k = rw (← one-add k) (sym (bit_shift x 1 k))

pub bit-zero : (k : ℕ) → bit 0 k ≡ false
unfolding bit
bit-zero k = rw zero-div

-- past a word's width no digit is set
pub bit_past : (w x k : ℕ) → x < 2 ^ w → w ≤ k → bit x k ≡ false
unfolding bit
bit_past w x k h l = ap (λ (y : ℕ). eqb (y % 2) 1) (div-eq_of_lt (lt_of_lt_of_le h (pow_mono l)))

-- ---- a digit of or, and, xor and a power

-- an operation op on numbers that does f to each two digits does g to each two tests of digits
module _ (op f : ℕ → ℕ → ℕ) (g : Bool → Bool → Bool)
    (shift : (a b k : ℕ) → op a b / 2 ^ k ≡ op (a / 2 ^ k) (b / 2 ^ k))
    (step : (a b : ℕ) → op a b ≡ op (a / 2) (b / 2) * 2 + f (a % 2) (b % 2))
    (t00 : eqb (f 0 0 % 2) 1 ≡ g false false) (t01 : eqb (f 0 1 % 2) 1 ≡ g false true)
    (t10 : eqb (f 1 0 % 2) 1 ≡ g true false) (t11 : eqb (f 1 1 % 2) 1 ≡ g true true) where
  digit_by : (d e : ℕ) → d < 2 → e < 2 → eqb (f d e % 2) 1 ≡ g (eqb d 1) (eqb e 1)
  digit_by zero zero h l = t00
  digit_by zero (suc zero) h l = t01
  digit_by (suc zero) zero h l = t10
  digit_by (suc zero) (suc zero) h l = t11
  digit_by zero (suc (suc e)) h l = absurd (omega arith)
  digit_by (suc zero) (suc (suc e)) h l = absurd (omega arith)
  digit_by (suc (suc d)) e h l = absurd (omega arith)

  bit-by : (a b k : ℕ) → bit (op a b) k ≡ g (bit a k) (bit b k)
  unfolding bit
  bit-by a b k =
      ap (λ (y : ℕ). eqb (y % 2) 1) (shift a b k ∙ step (a / 2 ^ k) (b / 2 ^ k))
      ∙ ap (λ (y : ℕ). eqb y 1) (mul-add-mod_self_right (op (a / 2 ^ k / 2) (b / 2 ^ k / 2)) 2 (f (a / 2 ^ k % 2) (b / 2 ^ k % 2)))
      ∙ digit_by (a / 2 ^ k % 2) (b / 2 ^ k % 2) (mod-lt (a / 2 ^ k) two_pos) (mod-lt (b / 2 ^ k) two_pos)

pub bit_or_lem : (a b k : ℕ) → bit (bit_or a b) k ≡ (bit a k || bit b k)
bit_or_lem = bit-by bit_or max ◌||◌ or_shr or_step refl refl refl refl

pub bit_and_lem : (a b k : ℕ) → bit (bit_and a b) k ≡ (bit a k && bit b k)
bit_and_lem = bit-by bit_and min ◌&&◌ and_shr and_step refl refl refl refl

pub bit_xor_lem : (a b k : ℕ) → bit (bit_xor a b) k ≡ unlike (bit a k) (bit b k)
bit_xor_lem = bit-by bit_xor differ unlike xor_shr xor_step refl refl refl refl

power_other : (i j : ℕ) → (i ≡ j → ⊥) → bit (2 ^ i) j ≡ false
unfolding bit
power_other zero zero h = absurd (h refl)
power_other zero (suc j) h = bit_past 1 (2 ^ zero) (suc j) (lit< tt) (omega arith)
power_other (suc i) zero h = ap (λ (y : ℕ). eqb (y % 2) 1) (div-one (2 ^ suc i) ∙ sym (one-mul (2 ^ suc i))) ∙ ap (λ (y : ℕ). eqb y 1) (shifted_even 1 i)
power_other (suc i) (suc j) h =
    bit-suc (2 ^ suc i) j
    ∙ ap (λ (y : ℕ). bit y j) (ap (λ (y : ℕ). y / 2) (sym (one-mul (2 ^ suc i))) ∙ shifted_half 1 i ∙ one-mul (2 ^ i))
    ∙ power_other i j (λ e. h (ap suc e))

pub bit_power : (i j : ℕ) → bit (2 ^ i) j ≡ eqb i j
unfolding bit
bit_power i j = ⊎_elim same (λ ne. power_other i j ne ∙ sym (ne_eqb i j ne)) (equal_or i j)
  where
    same : i ≡ j → bit (2 ^ i) j ≡ eqb i j
    same e = rw (eq-eqb i j e, e, div_self (pow_pos j))

-- the word with digit k alone, as code makes it: `1 << k`
pub one_shift : (w k : ℕ) → k < w → (1 * 2 ^ k) % 2 ^ w ≡ 2 ^ k
one_shift w k h = shl_exact 1 k w (lit< tt) (omega arith) ∙ one-mul (2 ^ k)

-- ---- the counts of a word's digits

module _ (x : ℕ) where
  half_shift : (i : ℕ) → x / 2 ^ i / 2 ≡ x / 2 ^ (i + 1)
  half_shift i = shr-shr x i 1

  set_here : (i : ℕ) → x / 2 ^ i % 2 ≡ 1 → bit x i ≡ true
  unfolding bit
  set_here i e = rw e

  clear_here : (i : ℕ) → x / 2 ^ i % 2 ≡ 0 → bit x i ≡ false
  unfolding bit
  clear_here i e = rw e

  ones-from : (n i : ℕ) → x < 2 ^ (i + n) → ones (x / 2 ^ i) ≡ count (bit x) i n
  unfolding ones count places
  ones-from zero i h = ap ones (div-eq_of_lt (rw add-zero at h))
  ones-from (suc n) i h = go (x / 2 ^ i % 2) refl (ones-from n (i + 1) (rw shift h))
    where
      shift : i + 1 + n ≡ i + suc n
      shift = omega arith

      go : (d : ℕ) → x / 2 ^ i % 2 ≡ d → ones (x / 2 ^ (i + 1)) ≡ count (bit x) (i + 1) n → ones (x / 2 ^ i) ≡ count (bit x) i (suc n)
      go zero e ih = rw (ones_step (x / 2 ^ i), e, half_shift i, ih, places_no (bit x) i n (clear_here i e), zero-add)
      go (suc zero) e ih = rw (ones_step (x / 2 ^ i), e, half_shift i, ih, places-yes (bit x) i n (set_here i e), one-add)
      go (suc (suc d)) e ih = absurd (omega (arith, mod-lt (x / 2 ^ i) two_pos))

  trailing_from : (n i : ℕ) → i + count_trailing_zeros n (x / 2 ^ i) ≡ lowest (bit x) i n
  unfolding count_trailing_zeros lowest places
  trailing_from zero i = refl
  trailing_from (suc n) i = go (x / 2 ^ i % 2) refl (trailing_from n (i + 1))
    where
      go : (d : ℕ) → x / 2 ^ i % 2 ≡ d → i + 1 + count_trailing_zeros n (x / 2 ^ (i + 1)) ≡ lowest (bit x) (i + 1) n
          → i + under d (count_trailing_zeros n (x / 2 ^ i / 2)) ≡ lowest (bit x) i (suc n)
      go zero e ih =
          let a : i + suc (count_trailing_zeros n (x / 2 ^ (i + 1))) ≡ i + 1 + count_trailing_zeros n (x / 2 ^ (i + 1)) = omega arith in
          rw (half_shift i, a, ih) (sym (lowest_past (bit x) i n (clear_here i e)))
      go (suc zero) e ih = rw add-zero (sym (lowest_here (bit x) i n (set_here i e)))
      go (suc (suc d)) e ih = absurd (omega (arith, mod-lt (x / 2 ^ i) two_pos))

-- `count_ones`
pub ones-count : (w x : ℕ) → x < 2 ^ w → ones x ≡ count (bit x) 0 w
ones-count w x h = ap ones (sym (div-one x)) ∙ ones-from x w 0 (rw zero-add h)

pub ones-changed : (w a b : ℕ) → a < 2 ^ w → b < 2 ^ w → ones (bit_xor a b) ≡ changed w a b
unfolding changed
ones-changed w a b h l = ones-count w (bit_xor a b) (xor_lt w a b h l) ∙ count_agree _ _ 0 w (λ k p q. bit_xor_lem a b k)

-- `trailing_zeros`
pub trailing_lowest : (w x : ℕ) → count_trailing_zeros w x ≡ lowest (bit x) 0 w
trailing_lowest w x = ap (count_trailing_zeros w) (sym (div-one x)) ∙ sym (zero-add (count_trailing_zeros w (x / 1))) ∙ trailing_from x w 0

pub trailing_is : (w x : ℕ) → Lowest (bit x) 0 w (count_trailing_zeros w x)
trailing_is w x = rw (trailing_lowest w x) (lowest_is (bit x) 0 w)

-- a word that is not 0 has a lowest set digit
pub trailing_below : (w j x : ℕ) → 0 < x → x < 2 ^ j → j ≤ w → count_trailing_zeros w x < j
unfolding count_trailing_zeros
trailing_below w zero x p h l = absurd (omega (arith, lt-one h))
trailing_below zero (suc j) x p h l = absurd (omega arith)
trailing_below (suc w) (suc j) x p h l = go (x % 2) refl (λ q. trailing_below w j (x / 2) q (shr_lt j 1 (rw add-one h)) (omega arith))
  where
    go : (d : ℕ) → x % 2 ≡ d → (0 < x / 2 → count_trailing_zeros w (x / 2) < j) → under d (count_trailing_zeros w (x / 2)) < suc j
    go zero e ih = omega (arith, ih (omega arith))
    go (suc d) e ih = omega arith

pub trailing_set : (w x : ℕ) → 0 < x → x < 2 ^ w → bit x (count_trailing_zeros w x) ≡ true
trailing_set w x p h = (trailing_is w x).here (omega (arith, trailing_below w w x p h (omega arith)))

-- the lowest set digit is the first place, and the others are those of the word without it
pub places_trailing : (w x : ℕ) → 0 < x → x < 2 ^ w
    → places (bit x) 0 w ≡ count_trailing_zeros w x ∷ places (bit (bit_xor x (2 ^ count_trailing_zeros w x))) 0 w
places_trailing w x p h = places_first (bit x) (bit (bit_xor x (2 ^ t))) 0 w t (trailing_is w x) (omega (arith, trailing_below w w x p h (omega arith))) off same
  where
    t : ℕ
    t = count_trailing_zeros w x

    off : bit (bit_xor x (2 ^ t)) t ≡ false
    off = bit_xor_lem x (2 ^ t) t ∙ rw (trailing_set w x p h, bit_power t t, eq-eqb t t refl)

    same : (k : ℕ) → (k ≡ t → ⊥) → bit (bit_xor x (2 ^ t)) k ≡ bit x k
    same k ne = bit_xor_lem x (2 ^ t) k ∙ rw (bit_power t k, ne_eqb t k (λ e. ne (sym e))) (unlike_false (bit x k))

-- in a wider word it stands where it does in this one
pub trailing_wider : (w v x : ℕ) → 0 < x → x < 2 ^ w → w ≤ v → count_trailing_zeros v x ≡ count_trailing_zeros w x
trailing_wider w v x p h l = lowest-only (bit x) 0 w (count_trailing_zeros v x) (record {
  from = (trailing_is v x).from;
  within = omega (arith, trailing_below v w x p h l);
  before = (trailing_is v x).before;
  here = λ b. (trailing_is v x).here (omega (arith, b, l));
}) ∙ sym (trailing_lowest w x)
