-- Numbers and their four bytes, both ways.
-- Assumes nothing.
use Prim.Native.Nat.{ℕ, zero, suc, ◌+◌, ◌*◌, ◌/◌, ◌%◌, ◌<◌, ◌≤◌}
use native.Mathlib.Nat.{add-zero}
use native.Mathlib.Omega.{arith}
use mathlib.Core.Path.{◌≡◌, refl, sym, ap, ◌∙◌}
use mathlib.Core.List.{List, [], ◌∷◌, ◌++◌, flat_map, append_assoc}
use lib.ListN.{length, get_or, drop}
use lib.Seq.{drop-cons, drop-drop, drop-append_seam, get_or-drop}
use Rattle.record.specs.Number.{number, numbers}
use Rattle.encoding.specs.Encoding.{number_bytes}
use Rattle.encoding.specs.Sound.{Below}

-- ---- the rest of a file from a place on

pub byte_at : (file : List ℕ) (at i : ℕ) (rest : List ℕ) → drop at file ≡ rest → get_or file (at + i) 0 ≡ get_or rest i 0
byte_at file at i rest e = sym (get_or-drop at file i 0) ∙ ap (λ l. get_or l i 0) e

pub drop_past : (file : List ℕ) (at : ℕ) (bytes rest : List ℕ) → drop at file ≡ bytes ++ rest → drop (at + length bytes) file ≡ rest
drop_past file at bytes rest e = sym (drop-drop (length bytes) at file) ∙ ap (drop (length bytes)) e ∙ drop-append_seam bytes rest

-- ---- reading what was written

digit : (n : ℕ) → n ≡ n % 256 + 256 * (n / 256)
digit n = omega arith

digits : (n x y z a b c : ℕ) → n ≡ a + 256 * x → x ≡ b + 256 * y → y ≡ c + 256 * z → a + 256 * b + 65536 * c + 16777216 * z ≡ n
digits n x y z a b c p q r = omega arith

of_bytes : (n : ℕ) → n < 4294967296 → n % 256 + 256 * (n / 256 % 256) + 65536 * (n / 65536 % 256) + 16777216 * (n / 16777216 % 256) ≡ n
of_bytes n h =
    let two : n / 65536 ≡ n / 256 / 256 = omega arith in
    let three : n / 16777216 ≡ n / 256 / 256 / 256 = omega arith in
    let top : n / 256 / 256 / 256 % 256 ≡ n / 256 / 256 / 256 = omega arith in
    rw (two, three, top) (digits n (n / 256) (n / 256 / 256) (n / 256 / 256 / 256) _ _ _ (digit n) (digit (n / 256)) (digit (n / 256 / 256)))

pub number_read : (file : List ℕ) (at n : ℕ) (rest : List ℕ) → n < 4294967296 → drop at file ≡ number_bytes n ++ rest → number file at ≡ n
unfolding number number_bytes
number_read file at n rest h e =
    let low : get_or file at 0 ≡ n % 256 = rw add-zero at (byte_at file at 0 _ e) in
    rw (low, byte_at file at 1 _ e, byte_at file at 2 _ e, byte_at file at 3 _ e) (of_bytes n h)

pub past_number : (file : List ℕ) (at n : ℕ) (rest : List ℕ) → drop at file ≡ number_bytes n ++ rest → drop (at + 4) file ≡ rest
unfolding number_bytes
past_number file at n rest e = drop_past file at (number_bytes n) rest e

pub length-bytes : (ns : List ℕ) → length (flat_map number_bytes ns) ≡ 4 * length ns
unfolding flat_map number_bytes
length-bytes [] = refl
length-bytes (n ∷ ns) = omega (arith, length-bytes ns)

pub numbers-read : (file : List ℕ) (at : ℕ) (ns rest : List ℕ) → Below 4294967296 ns → drop at file ≡ flat_map number_bytes ns ++ rest
    → numbers file at (length ns) ≡ ns
unfolding numbers flat_map
numbers-read file at [] rest h e = refl
numbers-read file at (n ∷ ns) rest h e =
    let apart : drop at file ≡ number_bytes n ++ (flat_map number_bytes ns ++ rest) = e ∙ append_assoc (number_bytes n) (flat_map number_bytes ns) rest in
    rw (number_read file at n _ h.0 apart, numbers-read file (at + 4) ns rest h.1 (past_number file at n _ apart))

-- ---- writing what was read

byte_small : (file : List ℕ) → Below 256 file → (i : ℕ) → get_or file i 0 < 256
byte_small [] h i = omega arith
byte_small (b ∷ bs) h zero = h.0
byte_small (b ∷ bs) h (suc i) = byte_small bs h.1 i

bytes_of : (a b c d : ℕ) → a < 256 → b < 256 → c < 256 → d < 256 → number_bytes (a + 256 * b + 65536 * c + 16777216 * d) ≡ a ∷ b ∷ c ∷ d ∷ []
unfolding number_bytes
bytes_of a b c d p q r s =
    let n = a + 256 * b + 65536 * c + 16777216 * d in
    let one : n / 256 ≡ b + 256 * c + 65536 * d = omega arith in
    let two : n / 65536 ≡ c + 256 * d = omega arith in
    let three : n / 16777216 ≡ d = omega arith in
    let e₀ : n % 256 ≡ a = omega arith in
    let e₁ : (b + 256 * c + 65536 * d) % 256 ≡ b = omega arith in
    let e₂ : (c + 256 * d) % 256 ≡ c = omega arith in
    let e₃ : d % 256 ≡ d = omega arith in
    rw (one, two, three, e₀, e₁, e₂, e₃)

module _ (file : List ℕ) (bytes : Below 256 file) where
  pub number_small : (at : ℕ) → number file at < 4294967296
  unfolding number
  number_small at =
      omega (arith, byte_small file bytes at, byte_small file bytes (at + 1), byte_small file bytes (at + 2), byte_small file bytes (at + 3))

  number_bytes_lem : (at : ℕ) → number_bytes (number file at) ≡ get_or file at 0 ∷ get_or file (at + 1) 0 ∷ get_or file (at + 2) 0 ∷ get_or file (at + 3) 0 ∷ []
  unfolding number
  number_bytes_lem at =
      bytes_of (get_or file at 0) (get_or file (at + 1) 0) (get_or file (at + 2) 0) (get_or file (at + 3) 0)
      (byte_small file bytes at) (byte_small file bytes (at + 1)) (byte_small file bytes (at + 2)) (byte_small file bytes (at + 3))

  four_bytes : (at : ℕ) → at + 4 ≤ length file → drop at file ≡ get_or file at 0 ∷ get_or file (at + 1) 0 ∷ get_or file (at + 2) 0 ∷ get_or file (at + 3) 0 ∷ drop (at + 4) file
  four_bytes at h =
      let one : at + 1 ≡ suc at = omega arith in
      let two : at + 2 ≡ suc (suc at) = omega arith in
      let three : at + 3 ≡ suc (suc (suc at)) = omega arith in
      let past : at + 4 ≡ suc (suc (suc (suc at))) = omega arith in
      drop-cons file at 0 (omega arith)
      ∙ rw (one, two, three, past, drop-cons file (suc at) 0 (omega arith), drop-cons file (suc (suc at)) 0 (omega arith), drop-cons file (suc (suc (suc at))) 0 (omega arith))

  pub number-written : (at : ℕ) → at + 4 ≤ length file → drop at file ≡ number_bytes (number file at) ++ drop (at + 4) file
  number-written at h = four_bytes at h ∙ rw (number_bytes_lem at)

  pub numbers-written : (n at : ℕ) → at + 4 * n ≤ length file → drop at file ≡ flat_map number_bytes (numbers file at n) ++ drop (at + 4 * n) file
  unfolding numbers flat_map
  numbers-written zero at h = let here : at + 4 * zero ≡ at = omega arith in rw here
  numbers-written (suc n) at h =
      let on : at + 4 * suc n ≡ at + 4 + 4 * n = omega arith in
      number-written at (omega arith)
      ∙ rw (on, append_assoc (number_bytes (number file at)) (flat_map number_bytes (numbers file (at + 4) n)) (drop (at + 4 + 4 * n) file), ← numbers-written n (at + 4) (omega arith))
