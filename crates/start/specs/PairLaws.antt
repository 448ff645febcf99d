-- The places of the kept candidate in a pair of its words taken as one.
-- Assumes nothing.
use Rattle.std.specs.Prelude.{ℕ, ◌<◌, ◌≤◌, ◌+◌, ◌-◌, ◌*◌, ◌/◌, ◌%◌, ◌^◌, ◌≡◌, Bool, true, List, map, length, get_or}
use Rattle.std.proofs.Common.{arith, ap, ap₂, sym, ◌∙◌, ⊎_elim}
use Rattle.std.proofs.Math.Arith.{digits_div, digits_mod}
use Rattle.std.specs.Int.Bits.{bit_xor}
use Rattle.std.proofs.Math.ListN.{get_or-eq_default}
use Rattle.base.specs.Tests.{below_or}
use Rattle.base.specs.Places.{places, places_agree}
use Rattle.formula.specs.Satisfaction.{Interpretation}
use Rattle.words.specs.Bit.{bit}
use Rattle.words.specs.BitLaws.{bit_shift, bit_xor_lem}
use Rattle.words.specs.Changed.{unlike}
use Rattle.words.specs.Sets.{member}
use Rattle.kept.specs.SetOf.{words32}
use Rattle.kept.specs.Tables.{Tables, atom_count}
use Rattle.kept.specs.Evaluation.{present}
use Rattle.kept.specs.Layout.{of_words, used, candidate_start}
use Rattle.kept.specs.LayoutLaws.{fits_of}
use Rattle.words.specs.Halves.{digit_low}
use Rattle.kept_laws.specs.Halves.{places_shift}
use Rattle.kept_laws.specs.Written.{get_candidate}
use Rattle.start.specs.WordLaws.{word_atoms}

-- a place of word i in a set
pub place_member : (w : ℕ) (ws : List ℕ) (i k : ℕ) → k < w → member w ws (i * w + k) ≡ bit (get_or ws i 0) k
unfolding member
place_member w ws i k l = ap₂ (λ q r. bit (get_or ws q 0) r) (digits_div i l) (digits_mod i l)

-- ---- two words as one

module _ (low high : ℕ) (small : low < 4294967296) where
  low_digit : (k : ℕ) → k < 32 → bit (low + high * 4294967296) k ≡ bit low k
  low_digit k l =
      let e : (low + high * 4294967296) % 2 ^ 32 ≡ low = omega arith in
      sym (digit_low (low + high * 4294967296) k l) ∙ ap (λ x. bit x k) e

  high_digit : (k : ℕ) → bit (low + high * 4294967296) (32 + k) ≡ bit high k
  high_digit k =
      let e : (low + high * 4294967296) / 2 ^ 32 ≡ high = omega arith in
      sym (bit_shift (low + high * 4294967296) 32 k) ∙ ap (λ x. bit x k) e

module _ (T : Tables) (ws : List ℕ) (j : ℕ) where
  -- pair j of the kept candidate as one word
  abbrev pub Holds : ℕ → Type 0
  Holds x = (k : ℕ) → k < 64 → present (of_words T ws) (j * 64 + k) ≡ bit x k

  two_words : (low high : ℕ) → low < 4294967296 → get_or (of_words T ws).candidate (2 * j) 0 ≡ low → get_or (of_words T ws).candidate (2 * j + 1) 0 ≡ high
      → Holds (low + high * 4294967296)
  two_words low high small p q k b = ⊎_elim below above (below_or k 32)
    where
      below : k < 32 → present (of_words T ws) (j * 64 + k) ≡ bit (low + high * 4294967296) k
      below c =
          let e : j * 64 + k ≡ 2 * j * 32 + k = omega arith in
          ap (present (of_words T ws)) e ∙ place_member 32 (of_words T ws).candidate (2 * j) k c ∙ ap (λ x. bit x k) p ∙ sym (low_digit low high small k c)

      above : 32 ≤ k → present (of_words T ws) (j * 64 + k) ≡ bit (low + high * 4294967296) k
      above c =
          let e : j * 64 + k ≡ (2 * j + 1) * 32 + (k - 32) = omega arith in
          let f : 32 + (k - 32) ≡ k = omega arith in
          ap (present (of_words T ws)) e ∙ place_member 32 (of_words T ws).candidate (2 * j + 1) (k - 32) (omega arith) ∙ ap (λ x. bit x (k - 32)) q
          ∙ sym (high_digit low high small (k - 32)) ∙ ap (bit (low + high * 4294967296)) f

  module _ (room : used T ≤ length ws) (small : get_or ws (candidate_start T + 2 * j) 0 < 4294967296) (x : ℕ) where
    pub pair_whole : 2 * j + 1 < words32 (atom_count T)
        → x ≡ get_or ws (candidate_start T + 2 * j) 0 + get_or ws (candidate_start T + 2 * j + 1) 0 * 4294967296 → Holds x
    pair_whole l e =
        let q : candidate_start T + (2 * j + 1) ≡ candidate_start T + 2 * j + 1 = omega arith in
        rw e (two_words (get_or ws (candidate_start T + 2 * j) 0) (get_or ws (candidate_start T + 2 * j + 1) 0) small
        (sym (get_candidate T ws room (2 * j) (omega arith)))
        (sym (get_candidate T ws room (2 * j + 1) l) ∙ ap (λ p. get_or ws p 0) q))

    -- the last word, if the number of words is odd
    pub pair_last : 2 * j + 1 ≡ words32 (atom_count T) → x ≡ get_or ws (candidate_start T + 2 * j) 0 → Holds x
    pair_last l e =
        let q : x ≡ get_or ws (candidate_start T + 2 * j) 0 + 0 * 4294967296 = omega arith in
        rw q (two_words (get_or ws (candidate_start T + 2 * j) 0) 0 small
        (sym (get_candidate T ws room (2 * j) (omega arith)))
        (get_or-eq_default (of_words T ws).candidate 0 {n = 2 * j + 1} (omega (arith, (fits_of T ws room).candidate))))

-- ---- against the new one

module _ (T : Tables) (ws : List ℕ) (j x new : ℕ) (holds : Holds T ws j x) where
  pair_differs : (k : ℕ) → k < 64 → unlike (present (of_words T ws) (j * 64 + k)) (bit new k) ≡ bit (bit_xor x new) k
  pair_differs k b = ap (λ p. unlike p (bit new k)) (holds k b) ∙ sym (bit_xor_lem x new k)

  pub pair_within : ((k : ℕ) → k < 64 → unlike (present (of_words T ws) (j * 64 + k)) (bit new k) ≡ true → j * 64 + k < atom_count T)
      → (k : ℕ) → k < 64 → bit (bit_xor x new) k ≡ true → j * 64 + k < atom_count T
  pair_within h k b e = h k b (pair_differs k b ∙ e)

  -- the atoms at which an interpretation that is `new` there differs from the kept candidate
  pub pair_atoms : (J : Interpretation) → ((k : ℕ) → k < 64 → J (j * 64 + k) ≡ bit new k)
      → places (λ a. unlike (present (of_words T ws) a) (J a)) (j * 64) 64 ≡ word_atoms 64 j (bit_xor x new)
  pair_atoms J same =
      let start : j * 64 ≡ j * 64 + 0 = omega arith in
      ap (λ m. places differ m 64) start ∙ places_shift differ (j * 64) 64 0
      ∙ ap (map (λ k. j * 64 + k)) (places_agree (λ k. differ (j * 64 + k)) (bit (bit_xor x new)) 0 64 (λ k a b. digit k (omega arith)))
    where
      differ : ℕ → Bool
      differ a = unlike (present (of_words T ws) a) (J a)

      digit : (k : ℕ) → k < 64 → differ (j * 64 + k) ≡ bit (bit_xor x new) k
      digit k b = ap (unlike (present (of_words T ws) (j * 64 + k))) (same k b) ∙ pair_differs k b
