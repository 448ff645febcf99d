-- Lists joined: that of i, of i + 1 and so on.
-- Assumes nothing.
use Prim.Native.Nat.{ℕ, zero, suc, ◌+◌, ◌-◌, ◌<◌, ◌≤◌}
use Rattle.std.proofs.Common.{zero-add, add-one, sym, ◌∙◌}
use native.Mathlib.Omega.{arith}
use Rattle.std.specs.Prelude.{◌≡◌, length, get_or}
use Rattle.std.proofs.Math.Path.{refl, ap, ap₂}
use mathlib.Core.List.{List, [], ◌∷◌, ◌++◌, append-nil, append_assoc}

module _ {A : Type 0} where
  -- the lists of the n numbers from i on, one after the other
  unfoldable pub joined : (ℕ → List A) → ℕ → ℕ → List A
  joined f i zero = []
  joined f i (suc n) = f i ++ joined f (i + 1) n

  pub joined_agree : (f g : ℕ → List A) (i n : ℕ) → ((k : ℕ) → i ≤ k → k < i + n → f k ≡ g k) → joined f i n ≡ joined g i n
  unfolding joined
  joined_agree f g i zero h = refl
  joined_agree f g i (suc n) h =
      ap₂ ◌++◌ (h i (omega arith) (omega arith)) (joined_agree f g (i + 1) n (λ k a b. h k (omega arith) (omega arith)))

  pub joined-split : (f : ℕ → List A) (i n m : ℕ) → joined f i (n + m) ≡ joined f i n ++ joined f (i + n) m
  unfolding joined
  joined-split f i zero m =
      let a : zero + m ≡ m = omega arith in
      let b : i + zero ≡ i = omega arith in
      rw (a, b)
  joined-split f i (suc n) m =
      let a : suc n + m ≡ suc (n + m) = omega arith in
      let b : i + suc n ≡ i + 1 + n = omega arith in
      rw (a, b, append_assoc) (ap (λ r. f i ++ r) (joined-split f (i + 1) n m))

  pub joined_first : (f : ℕ → List A) (i n : ℕ) → i < n → joined f i (n - i) ≡ f i ++ joined f (i + 1) (n - (i + 1))
  unfolding joined
  joined_first f i n l = let a : n - i ≡ suc (n - (i + 1)) = omega arith in rw a

  pub joined_past : (f : ℕ → List A) (i n : ℕ) → n ≤ i → joined f i (n - i) ≡ []
  unfolding joined
  joined_past f i n l = let a : n - i ≡ 0 = omega arith in rw a

  pub joined_last : (f : ℕ → List A) (n : ℕ) → joined f 0 (n + 1) ≡ joined f 0 n ++ f n
  unfolding joined
  joined_last f n = joined-split f 0 n 1 ∙ rw (zero-add, append-nil)

  pub joined-more : (f : ℕ → List A) (n : ℕ) → joined f 0 (suc n) ≡ joined f 0 n ++ f n
  joined-more f n = ap (λ m. joined f 0 m) (sym (add-one n)) ∙ joined_last f n

  pub joined-none : (f : ℕ → List A) (i n : ℕ) → ((k : ℕ) → i ≤ k → k < i + n → f k ≡ []) → joined f i n ≡ []
  unfolding joined
  joined-none f i zero h = refl
  joined-none f i (suc n) h = rw (h i (omega arith) (omega arith)) (joined-none f (i + 1) n (λ k a b. h k (omega arith) (omega arith)))

-- a list of one element for each number
module _ {A : Type 0} (g : ℕ → A) where
  abbrev pub single : ℕ → List A
  single k = g k ∷ []

  pub length_singles : (i n : ℕ) → length (joined single i n) ≡ n
  unfolding joined
  length_singles i zero = refl
  length_singles i (suc n) = ap suc (length_singles (i + 1) n)

  pub get_or-singles : (i n k : ℕ) (d : A) → k < n → get_or (joined single i n) k d ≡ g (i + k)
  unfolding joined
  get_or-singles i zero k d l = absurd (omega arith)
  get_or-singles i (suc n) zero d l = let a : i + zero ≡ i = omega arith in rw a
  get_or-singles i (suc n) (suc k) d l =
      let a : i + suc k ≡ i + 1 + k = omega arith in
      rw a (get_or-singles (i + 1) n k d (omega arith))
