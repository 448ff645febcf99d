-- A number in decimal says that number, in ASCII digits.
-- Assumes nothing.
use Prim.Native.Nat.{ℕ, zero, suc, ◌+◌, ◌-◌, ◌*◌, ◌/◌, ◌%◌, ◌^◌, ◌<◌}
use native.Mathlib.Omega.{arith}
use mathlib.Core.Path.{◌≡◌, refl, ap, ap₂, ◌∙◌}
use mathlib.Core.Bool.{Bool, true, false}
use mathlib.Core.List.{List, [], ◌∷◌, ◌++◌}
use lib.Dec.{ltb}
use borrow.Author.Tests.{ltb-true, ltb-false}
use Rattle.base.specs.Each.{Each, each_append}
use Rattle.text.specs.Decimal.{digits, decimal, Digit, value, value_after}
use Rattle.text.specs.DecimalLaws.{digits_one, digits_more, tenth}

-- a digit more
after_last : (n : ℕ) (ds : List ℕ) (d : ℕ) → value_after n (ds ++ (d ∷ [])) ≡ 10 * value_after n ds + (d - 48)
unfolding value_after
after_last n [] d = refl
after_last n (e ∷ ds) d = after_last (10 * n + (e - 48)) ds d

value_last : (ds : List ℕ) (d : ℕ) → value (ds ++ (d ∷ [])) ≡ 10 * value ds + (d - 48)
unfolding value
value_last ds d = after_last 0 ds d

value-digits : (k n : ℕ) → n < 10 ^ k → value (digits k n) ≡ n
unfolding value value_after digits
value-digits zero n h = omega arith
value-digits (suc k) n h = go (λ q. value-digits k (n / 10) q) (ltb n 10) refl
  where
    go : (n / 10 < 10 ^ k → value (digits k (n / 10)) ≡ n / 10) → (b : Bool) → ltb n 10 ≡ b → value (digits (suc k) n) ≡ n
    go u true e = ap value (digits_one k n (ltb-true n 10 e)) ∙ omega arith
    go u false e =
        ap value (digits_more k n (ltb-false n 10 e))
        ∙ value_last (digits k (n / 10)) (48 + n % 10)
        ∙ omega (arith, u (tenth k n h))

pub value-decimal : (n : ℕ) → n < 10 ^ 20 → value (decimal n) ≡ n
unfolding decimal
value-decimal n h = value-digits 20 n h

each_digit : (k n : ℕ) → Each Digit (digits k n)
unfolding digits
each_digit zero n = tt
each_digit (suc k) n = go (each_digit k (n / 10)) (ltb n 10) refl
  where
    go : Each Digit (digits k (n / 10)) → (b : Bool) → ltb n 10 ≡ b → Each Digit (digits (suc k) n)
    go u true e = let h : n < 10 = ltb-true n 10 e in rw (digits_one k n h) ((omega arith, omega arith), tt)
    go u false e =
        rw (digits_more k n (ltb-false n 10 e)) (each_append Digit (digits k (n / 10)) ((48 + n % 10) ∷ []) u ((omega arith, omega arith), tt))

pub decimal-digits : (n : ℕ) → Each Digit (decimal n)
unfolding decimal
decimal-digits n = each_digit 20 n

-- digits end where a space stands
pub digits_end : (xs ys us vs : List ℕ) → Each Digit xs → Each Digit ys → xs ++ 32 ∷ us ≡ ys ++ 32 ∷ vs → xs ≡ ys
digits_end [] [] us vs p q e = refl
digits_end [] (y ∷ ys) us vs p q e = let z : 32 ≡ y = cc in absurd (omega (arith, q.0.0))
digits_end (x ∷ xs) [] us vs p q e = let z : x ≡ 32 = cc in absurd (omega (arith, p.0.0))
digits_end (x ∷ xs) (y ∷ ys) us vs p q e =
    let z : x ≡ y = cc in
    let rest : xs ++ 32 ∷ us ≡ ys ++ 32 ∷ vs = cc in
    ap₂ ◌∷◌ z (digits_end xs ys us vs p.1 q.1 rest)
