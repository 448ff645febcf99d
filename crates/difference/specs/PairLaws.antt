-- Two words of the kept candidate against a word of the new one.
-- Assumes nothing.
use Rattle.std.specs.Prelude.{ℕ, ◌<◌, ◌≤◌, ◌+◌, ◌*◌, ◌/◌, ◌%◌, ◌^◌, ◌≡◌, List, get_or}
use Rattle.std.proofs.Common.{arith, sym, ap, ap₂, ◌∙◌, ⊎_elim}
use Rattle.std.specs.Int.Bits.{bit_or, bit_xor, or_add_and, xor_add_and}
use Rattle.std.proofs.lemmas.Nat.{and_le_l, and_le_r, xor_shr, xor_mod, ones_cat}
use Rattle.std.specs.Int.Count.{ones}
use Rattle.std.proofs.Math.Pow.{split}
use Rattle.base.specs.Tests.{below_or, equal_or}
use Rattle.words.specs.BitLaws.{ones-changed}
use Rattle.words.specs.Changed.{changed}
use Rattle.words.specs.Halves.{half}
use Rattle.difference.specs.ChangedLaws.{word_changes, word_more, none_changed}
use Rattle.difference.specs.Marks.{Same, SameFrom}

low_half : (new : List ℕ) (j x y : ℕ) → x < 4294967296 → x + y * 4294967296 ≡ get_or new j 0 → x ≡ half new (2 * j)
unfolding half
low_half new j x y a e =
    let p : 2 * j / 2 ≡ j = omega arith in
    let q : 2 * j % 2 ≡ 0 = omega arith in
    rw (p, q, ← e) (omega arith)

high_half : (new : List ℕ) (j x y : ℕ) → x < 4294967296 → y < 4294967296 → x + y * 4294967296 ≡ get_or new j 0 → y ≡ half new (2 * j + 1)
unfolding half
high_half new j x y a b e =
    let p : (2 * j + 1) / 2 ≡ j = omega arith in
    let q : (2 * j + 1) % 2 ≡ 1 = omega arith in
    rw (p, q, ← e) (omega arith)

-- two words differ where their low halves do and where their high halves do
changed_halves : (x y : ℕ) → x < 18446744073709551616 → y < 18446744073709551616
    → changed 64 x y ≡ changed 32 (x / 4294967296) (y / 4294967296) + changed 32 (x % 4294967296) (y % 4294967296)
changed_halves x y a b =
    sym (ones-changed 64 x y a b) ∙ ap ones (sym (split (bit_xor x y) 32))
    ∙ ones_cat 32 (bit_xor x y / 2 ^ 32) (bit_xor x y % 2 ^ 32) (omega arith)
    ∙ ap₂ (λ m n. m + n) (ap ones (xor_shr x y 32) ∙ ones-changed 32 (x / 4294967296) (y / 4294967296) (omega arith) (omega arith))
    (ap ones (xor_mod x y 32) ∙ ones-changed 32 (x % 4294967296) (y % 4294967296) (omega arith) (omega arith))

module _ (at : ℕ) (kept new : List ℕ) (j : ℕ) where
  -- both words are the same
  abbrev Pair : Type 0
  Pair = Same at kept new (2 * j) × Same at kept new (2 * j + 1)

  pub pair_same : get_or kept (at + 2 * j) 0 < 4294967296 → get_or kept (at + 2 * j + 1) 0 < 4294967296
      → get_or kept (at + 2 * j) 0 + get_or kept (at + 2 * j + 1) 0 * 4294967296 ≡ get_or new j 0 → Pair
  pair_same a b e =
      let q : at + (2 * j + 1) ≡ at + 2 * j + 1 = omega arith in (
        low_half new j (get_or kept (at + 2 * j) 0) (get_or kept (at + 2 * j + 1) 0) a e,
        ap (λ k. get_or kept k 0) q ∙ high_half new j (get_or kept (at + 2 * j) 0) (get_or kept (at + 2 * j + 1) 0) a b e,
      )

  pair_more : (r s : ℕ) → r ≡ changed 32 (get_or kept (at + 2 * j) 0) (half new (2 * j)) → s ≡ changed 32 (get_or kept (at + (2 * j + 1)) 0) (half new (2 * j + 1))
      → word_changes at kept new (2 * j) + (r + s) ≡ word_changes at kept new (2 * (j + 1))
  pair_more r s p q =
      let e : 2 * (j + 1) ≡ 2 * j + 1 + 1 = omega arith in
      rw e (omega (arith, word_more at kept new (2 * j) r p, word_more at kept new (2 * j + 1) s q))

  -- the changes of a pair, counted at once
  pub pair-changed : (x r : ℕ) → x ≡ get_or kept (at + 2 * j) 0 + get_or kept (at + 2 * j + 1) 0 * 4294967296
      → get_or kept (at + 2 * j) 0 < 4294967296 → get_or kept (at + 2 * j + 1) 0 < 4294967296 → get_or new j 0 < 18446744073709551616
      → r ≡ changed 64 x (get_or new j 0) → word_changes at kept new (2 * j) + r ≡ word_changes at kept new (2 * (j + 1))
  pair-changed x r e a b l p = omega (arith, changed_halves x y (omega arith) l, pair_more (changed 32 (x % 4294967296) (y % 4294967296)) (changed 32 (x / 4294967296) (y / 4294967296)) low high)
    where
      y : ℕ
      y = get_or new j 0

      low : changed 32 (x % 4294967296) (y % 4294967296) ≡ changed 32 (get_or kept (at + 2 * j) 0) (half new (2 * j))
      low = ap₂ (changed 32) (omega arith) (low_half new j (y % 4294967296) (y / 4294967296) (omega arith) (omega arith))

      high : changed 32 (x / 4294967296) (y / 4294967296) ≡ changed 32 (get_or kept (at + (2 * j + 1)) 0) (half new (2 * j + 1))
      high =
          let q : at + 2 * j + 1 ≡ at + (2 * j + 1) = omega arith in
          let h : x / 4294967296 ≡ get_or kept (at + 2 * j + 1) 0 = omega arith in
          ap₂ (changed 32) (h ∙ ap (λ k. get_or kept k 0) q) (high_half new j (y % 4294967296) (y / 4294967296) (omega arith) (omega arith) (omega arith))

-- ---- words compared by or and xor

or_zero_left : (a b : ℕ) → bit_or a b ≡ 0 → a ≡ 0
or_zero_left a b e = omega (arith, or_add_and a b, and_le_r a b)

or_zero_right : (a b : ℕ) → bit_or a b ≡ 0 → b ≡ 0
or_zero_right a b e = omega (arith, or_add_and a b, and_le_l a b)

xor-zero : (a b : ℕ) → bit_xor a b ≡ 0 → a ≡ b
xor-zero a b e = omega (arith, xor_add_and a b, and_le_l a b, and_le_r a b)

module _ (at : ℕ) (kept new : List ℕ) (first : ℕ) where
  pub from_none : SameFrom at kept new first first
  from_none i a b = absurd (omega arith)

  pub from_more : (j : ℕ) → SameFrom at kept new first j → Pair at kept new j → SameFrom at kept new first (j + 1)
  from_more j s p i a b = ⊎_elim (λ l. s i a l) (λ l. ⊎_elim (λ e. rw e p.0) (λ ne. last (omega arith)) (equal_or i (2 * j))) (below_or i (2 * j))
    where
      last : i ≡ 2 * j + 1 → Same at kept new i
      last e = rw e p.1

  -- pairs that are the same add no change
  pub from_adds : (end : ℕ) → first ≤ end → SameFrom at kept new first end → word_changes at kept new (2 * first) ≡ word_changes at kept new (2 * end)
  from_adds end l s = none_changed at kept new (2 * first) (2 * end) (omega arith) s

  -- the gathered differences d are 0 only if every pair was the same
  pub gathered_more : (j d x : ℕ) → (d ≡ 0 → SameFrom at kept new first j)
      → x ≡ get_or kept (at + 2 * j) 0 + get_or kept (at + 2 * j + 1) 0 * 4294967296
      → get_or kept (at + 2 * j) 0 < 4294967296 → get_or kept (at + 2 * j + 1) 0 < 4294967296
      → bit_or d (bit_xor (get_or new j 0) x) ≡ 0 → SameFrom at kept new first (j + 1)
  gathered_more j d x s e a b z =
      from_more j (s (or_zero_left d (bit_xor (get_or new j 0) x) z))
      (pair_same at kept new j a b (sym e ∙ sym (xor-zero (get_or new j 0) x (or_zero_right d (bit_xor (get_or new j 0) x) z))))
