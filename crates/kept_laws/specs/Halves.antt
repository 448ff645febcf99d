-- A candidate's u64 words as the u32 words of the kept evaluation, and their difference word by word.
-- Assumes nothing.
use Rattle.std.specs.Prelude.{ℕ, zero, suc, ◌<◌, ◌≤◌, ◌+◌, ◌*◌, ◌/◌, ◌%◌, ◌^◌, ◌≡◌, refl, Bool, true, false, ◌&&◌, List, ◌∷◌, map, ltb, get_or}
use Rattle.std.proofs.Common.{arith, zero-add, ap, ◌∙◌, ⊎_elim, pow_pos, lt-ltb, le-ltb}
use Rattle.std.proofs.Math.Path.{ap₂, sym}
use Rattle.std.proofs.Math.Arith.{digits_div, digits_mod}
use Rattle.std.specs.Int.Bits.{bit_xor}
use Rattle.std.proofs.Math.ListN.{get_or-eq_default}
use Rattle.base.specs.Tests.{below_or}
use Rattle.base.specs.Places.{places, places-yes, places_no, places_agree, count, count-split}
use Rattle.formula.specs.Passes.{Within}
use Rattle.words.specs.Bit.{bit}
use Rattle.words.specs.BitLaws.{bit_xor_lem}
use Rattle.words.specs.Changed.{unlike}
use Rattle.words.specs.Halves.{half, half-bit, half_small}
use Rattle.words.specs.Sets.{member}
use Rattle.kept.specs.Tabulate.{tabulate, length-tabulate, tabulate_at}
use Rattle.kept.specs.SetOf.{words32, set_of}
use Rattle.kept.specs.SetOfLaws.{Small, set_of-is}

-- ---- halves

member-half : (ws : List ℕ) (n j : ℕ) → j < words32 n * 32 → member 32 (tabulate (words32 n) (half ws)) j ≡ member 64 ws j
unfolding member
member-half ws n j l = ap (λ x. bit x (j % 32)) (tabulate_at (words32 n) (half ws) 0 (j / 32) (omega arith)) ∙ half-bit ws j

-- the words of a candidate that has atoms alone are its halves
pub halves : (ws : List ℕ) (n : ℕ) → Within n (member 64 ws) → tabulate (words32 n) (half ws) ≡ set_of (member 64 ws) n
halves ws n w =
    set_of-is (member 64 ws) n (tabulate (words32 n) (half ws)) (length-tabulate (words32 n) (half ws)) small
    (λ j l. at j l ∙ sym (alone j))
  where
    low : (i : ℕ) → half ws i < 2 ^ 32
    low i = half_small ws i

    small : Small 32 (tabulate (words32 n) (half ws))
    small k = ⊎_elim
        (λ l. rw (tabulate_at (words32 n) (half ws) 0 k l) (low k))
        (λ l. rw (get_or-eq_default (tabulate (words32 n) (half ws)) 0 {n = k} (omega (arith, length-tabulate (words32 n) (half ws)))) (pow_pos 32))
        (below_or k (words32 n))

    at : (j : ℕ) → j < words32 n * 32 → member 32 (tabulate (words32 n) (half ws)) j ≡ member 64 ws j
    at j l = member-half ws n j l

    alone : (j : ℕ) → ltb j n && member 64 ws j ≡ member 64 ws j
    alone j = ⊎_elim (λ l. rw (lt-ltb j n l)) (λ l. rw (le-ltb j n l) (sym (outside j l (member 64 ws j) refl))) (below_or j n)
      where
        outside : (j : ℕ) → n ≤ j → (b : Bool) → member 64 ws j ≡ b → member 64 ws j ≡ false
        outside j l true e = absurd (omega (arith, w j e))
        outside j l false e = e

-- ---- the difference of the kept candidate and the new one, word by word

-- the places from i + j on are those of the test seen from i
pub places_shift : (p : ℕ → Bool) (i n j : ℕ) → places p (i + j) n ≡ map (λ k. i + k) (places (λ k. p (i + k)) j n)
unfolding places
places_shift p i zero j = refl
places_shift p i (suc n) j = go (p (i + j)) refl (places_shift p i n (j + 1))
  where
    next : i + j + 1 ≡ i + (j + 1)
    next = omega arith

    go : (b : Bool) → p (i + j) ≡ b → places p (i + (j + 1)) n ≡ map (λ k. i + k) (places (λ k. p (i + k)) (j + 1) n)
        → places p (i + j) (suc n) ≡ map (λ k. i + k) (places (λ k. p (i + k)) j (suc n))
    go true e ih = rw (places-yes p (i + j) n e, places-yes (λ k. p (i + k)) j n e, next) (ap (λ ks. (i + j) ∷ ks) ih)
    go false e ih = rw (places_no p (i + j) n e, places_no (λ k. p (i + k)) j n e, next) ih

-- word i of the kept candidate against half i of the new one
module _ (kept new : List ℕ) (i : ℕ) where
  abbrev differ : ℕ → Bool
  differ a = unlike (member 32 kept a) (member 64 new a)

  -- the digits that differ
  abbrev pub difference : ℕ
  difference = bit_xor (get_or kept i 0) (half new i)

  differ_digit : (k : ℕ) → k < 32 → differ (i * 32 + k) ≡ bit difference k
  unfolding member
  differ_digit k l =
      ap₂ unlike (ap₂ (λ q r. bit (get_or kept q 0) r) (digits_div i l) (digits_mod i l))
      (sym (half-bit new (i * 32 + k)) ∙ ap₂ (λ q r. bit (half new q) r) (digits_div i l) (digits_mod i l))
      ∙ sym (bit_xor_lem (get_or kept i 0) (half new i) k)

  -- the changed atoms of word i are the places of the difference (trailing zeros give the lowest: words' `places_trailing`)
  pub word-places : places (λ a. unlike (member 32 kept a) (member 64 new a)) (i * 32) 32 ≡ map (λ k. i * 32 + k) (places (bit difference) 0 32)
  word-places =
      let start : i * 32 ≡ i * 32 + 0 = omega arith in
      ap (λ m. places differ m 32) start ∙ places_shift differ (i * 32) 32 0
      ∙ ap (map (λ k. i * 32 + k)) (places_agree (λ k. differ (i * 32 + k)) (bit difference) 0 32 (λ k a b. differ_digit k (omega arith)))

-- one word more
pub changes_next : (p : ℕ → Bool) (i : ℕ) → count p 0 (suc i * 32) ≡ count p 0 (i * 32) + count p (i * 32) 32
changes_next p i =
    let e : suc i * 32 ≡ i * 32 + 32 = omega arith in
    ap (count p 0) e ∙ count-split p 0 (i * 32) 32 ∙ ap (λ m. count p 0 (i * 32) + count p m 32) (zero-add (i * 32))
