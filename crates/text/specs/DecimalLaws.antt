-- Laws of numbers in decimal.
-- Assumes nothing.
use Rattle.std.specs.Prelude.{ℕ, zero, suc, ◌+◌, ◌/◌, ◌%◌, ◌^◌, ◌≤◌, ◌<◌, ◌≡◌, refl, Bool, true, false, [], ◌∷◌, ◌++◌, ltb, length}
use Rattle.std.proofs.Common.{arith, sym, ap, ◌∙◌, length-append, ltb-true, ltb-false, lt-ltb, le-ltb}
use Rattle.text.specs.Decimal.{digits, decimal}

pub digits_one : (k n : ℕ) → n < 10 → digits (suc k) n ≡ (48 + n) ∷ []
unfolding digits
digits_one k n h = rw (lt-ltb n 10 h)

pub digits_more : (k n : ℕ) → 10 ≤ n → digits (suc k) n ≡ digits k (n / 10) ++ ((48 + n % 10) ∷ [])
unfolding digits
digits_more k n h = rw (le-ltb n 10 h)

-- a digit less holds a tenth
pub tenth : (k n : ℕ) → n < 10 ^ suc k → n / 10 < 10 ^ k
tenth k n h = omega arith

-- more than enough digits are as good
enough : (k n : ℕ) → n < 10 ^ suc k → digits (suc k) n ≡ digits (suc (suc k)) n
enough zero n h = digits_one 0 n h ∙ sym (digits_one 1 n h)
enough (suc k) n h = go (enough k (n / 10) (tenth (suc k) n h)) (ltb n 10) refl
  where
    go : digits (suc k) (n / 10) ≡ digits (suc (suc k)) (n / 10) → (b : Bool) → ltb n 10 ≡ b → digits (suc (suc k)) n ≡ digits (suc (suc (suc k))) n
    go u true e = digits_one (suc k) n (ltb-true n 10 e) ∙ sym (digits_one (suc (suc k)) n (ltb-true n 10 e))
    go u false e =
        digits_more (suc k) n (ltb-false n 10 e)
        ∙ ap (λ l. l ++ ((48 + n % 10) ∷ [])) u
        ∙ sym (digits_more (suc (suc k)) n (ltb-false n 10 e))

pub decimal_one : (n : ℕ) → n < 10 → decimal n ≡ (48 + n) ∷ []
unfolding decimal
decimal_one n h = digits_one 19 n h

pub decimal_more : (n : ℕ) → 10 ≤ n → n < 10 ^ 20 → decimal n ≡ decimal (n / 10) ++ ((48 + n % 10) ∷ [])
unfolding decimal
decimal_more n h l =
    digits_more 19 n h ∙ ap (λ s. s ++ ((48 + n % 10) ∷ [])) (enough 18 (n / 10) (tenth 19 n l))

length_digits : (k n : ℕ) → length (digits k n) ≤ k
unfolding digits
length_digits zero n = omega arith
length_digits (suc k) n = go (length_digits k (n / 10)) (ltb n 10) refl
  where
    go : length (digits k (n / 10)) ≤ k → (b : Bool) → ltb n 10 ≡ b → length (digits (suc k) n) ≤ suc k
    go l true e = rw (digits_one k n (ltb-true n 10 e)) (omega arith)
    go l false e = rw (digits_more k n (ltb-false n 10 e), length-append) (omega arith)

pub length-decimal : (n : ℕ) → length (decimal n) ≤ 20
unfolding decimal
length-decimal n = length_digits 20 n
