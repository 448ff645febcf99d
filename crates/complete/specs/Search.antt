-- The search for the next atom that lacks support: 32 atoms at a time, then one by one.
-- Assumes nothing.
use Prim.Native.Nat.{ℕ, suc, ◌+◌, ◌-◌, ◌*◌, ◌/◌, ◌%◌, ◌^◌, ◌<◌, ◌≤◌}
use native.Mathlib.Omega.{arith}
use Rattle.std.specs.Prelude.{◌≡◌, refl, Bool, true, false, not, ◌&&◌, ◌||◌, List, length, get_or}
use Rattle.std.proofs.Common.{ap, ◌∙◌, shr_lt}
use Rattle.std.proofs.Math.Path.{ap₂, sym}
use Rattle.std.specs.Int.Bits.{bit_or, bit_xor}
use Rattle.std.specs.Int.Count.{count_trailing_zeros}
use Rattle.std.proofs.Math.Dec.{eqb}
use Rattle.base.specs.Places.{Lowest, lowest, lowest_here, lowest_past, lowest_is, lowest-only, lowest_skip, lowest_agree}
use Rattle.theory.specs.declared.Counts.{Counts}
use Rattle.words.specs.Bit.{bit}
use Rattle.words.specs.BitLaws.{bit_shift, bit-zero, bit_or_lem, bit_xor_lem, trailing_is, trailing_below}
use Rattle.words.specs.Changed.{unlike}
use Rattle.kept.specs.Tables.{Tables, atom_count}
use Rattle.kept.specs.Layout.{of_words, used}
use Rattle.kept_laws.specs.Given.{support_at, candidate_at}
use Rattle.kept_laws.specs.Written.{get_support}
use Rattle.node_truth.specs.InWords.{present_in}
use Rattle.node_truth.specs.InWordsLaws.{present_in_lem}
use Rattle.complete.specs.Phases.{lacks}

-- atom a is in the candidate and has no support, by the words
unfoldable pub lacks_in : Counts → List ℕ → ℕ → Bool
lacks_in t ws a = present_in t ws a && eqb (get_or ws (support_at t + a) 0) 0

-- the lowest such atom from i on, the number of atoms if there is none
unfoldable pub next_lacking : Counts → List ℕ → ℕ → ℕ
next_lacking t ws i = lowest (lacks_in t ws) i (t.atoms - i)

-- what the words say is what the evaluation that they hold says
module _ (T : Tables) (ws : List ℕ) (long : used T ≤ length ws) where
  pub lacks_in_lem : (a : ℕ) → a < atom_count T → lacks_in T.counts ws a ≡ lacks (of_words T ws) a
  unfolding lacks_in
  lacks_in_lem a l = ap₂ (λ b x. b && eqb x 0) (present_in_lem T ws long a l) (get_support T ws long a l)

  pub next_lacks : (i : ℕ) → i ≤ atom_count T → Lowest (lacks (of_words T ws)) i (atom_count T - i) (next_lacking T.counts ws i)
  unfolding next_lacking
  next_lacks i l =
      rw (lowest_agree (lacks_in T.counts ws) (lacks (of_words T ws)) i (atom_count T - i) (λ k a b. lacks_in_lem k (omega arith)))
      (lowest_is (lacks (of_words T ws)) i (atom_count T - i))

module _ (t : Counts) (ws : List ℕ) where
  pub next_from : (i : ℕ) → i ≤ next_lacking t ws i
  unfolding next_lacking
  next_from i = (lowest_is (lacks_in t ws) i (t.atoms - i)).from

  pub next_within : (i : ℕ) → i ≤ t.atoms → next_lacking t ws i ≤ t.atoms
  unfolding next_lacking
  next_within i l = omega (arith, (lowest_is (lacks_in t ws) i (t.atoms - i)).within)

  -- ---- atom by atom

  pub next_found : (i : ℕ) → i < t.atoms → lacks_in t ws i ≡ true → next_lacking t ws i ≡ i
  unfolding next_lacking
  next_found i l e = let s : t.atoms - i ≡ suc (t.atoms - (i + 1)) = omega arith in rw s (lowest_here (lacks_in t ws) i (t.atoms - (i + 1)) e)

  pub next_passed : (i : ℕ) → i < t.atoms → lacks_in t ws i ≡ false → next_lacking t ws i ≡ next_lacking t ws (i + 1)
  unfolding next_lacking
  next_passed i l e = let s : t.atoms - i ≡ suc (t.atoms - (i + 1)) = omega arith in rw s (lowest_past (lacks_in t ws) i (t.atoms - (i + 1)) e)

  pub next-end : (i : ℕ) → t.atoms ≤ i → next_lacking t ws i ≡ i
  unfolding next_lacking
  next-end i l = omega (arith, (lowest_is (lacks_in t ws) i (t.atoms - i)).from, (lowest_is (lacks_in t ws) i (t.atoms - i)).within)

  -- ---- by a word whose digits are the atoms of the word of i that lack support

  module _ (i x : ℕ) (l : i / 32 < t.atoms / 32) (digits : (k : ℕ) → k < 32 → bit x k ≡ lacks_in t ws (32 * (i / 32) + k)) where
    rest_digit : (k : ℕ) → i % 32 + k < 32 → lacks_in t ws (i + k) ≡ bit (x / 2 ^ (i % 32)) k
    rest_digit k h =
        let at : i + k ≡ 32 * (i / 32) + (i % 32 + k) = omega arith in
        ap (lacks_in t ws) at ∙ sym (digits (i % 32 + k) h) ∙ sym (bit_shift x (i % 32) k)

    pub word-passed : x / 2 ^ (i % 32) ≡ 0 → next_lacking t ws i ≡ next_lacking t ws (i / 32 * 32 + 32)
    unfolding next_lacking
    word-passed z = rw range (lowest_skip (lacks_in t ws) i n (t.atoms - (i / 32 * 32 + 32)) none ∙ rw to)
      where
        n : ℕ
        n = i / 32 * 32 + 32 - i

        to : i + n ≡ i / 32 * 32 + 32
        to = omega arith

        range : t.atoms - i ≡ n + (t.atoms - (i / 32 * 32 + 32))
        range = omega arith

        none : (k : ℕ) → i ≤ k → k < i + n → lacks_in t ws k ≡ false
        none k a b =
            let e : i + (k - i) ≡ k = omega arith in
            rw (← e) (rest_digit (k - i) (omega arith) ∙ rw z (bit-zero (k - i)))

    module _ (small : x < 2 ^ 32) (ne : x / 2 ^ (i % 32) ≡ 0 → ⊥) where
      zeros : ℕ
      zeros = count_trailing_zeros 64 (x / 2 ^ (i % 32))

      below : zeros < 32 - i % 32
      unfolding zeros
      below = trailing_below 64 (32 - i % 32) (x / 2 ^ (i % 32)) (omega arith)
          (shr_lt (32 - i % 32) (i % 32) (let e : 32 - i % 32 + i % 32 ≡ 32 = omega arith in rw e small))
          (omega arith)

      pub word_found : next_lacking t ws i ≡ i + count_trailing_zeros 64 (x / 2 ^ (i % 32))
      unfolding next_lacking zeros
      word_found = sym (lowest-only (lacks_in t ws) i (t.atoms - i) (i + zeros) (record {
        from = omega arith;
        within = omega (arith, below);
        before = λ k a b.
            let e : i + (k - i) ≡ k = omega arith in
            rw (← e) (rest_digit (k - i) (omega (arith, below)) ∙ (trailing_is 64 (x / 2 ^ (i % 32))).before (k - i) (omega arith) (omega arith));
        here = λ h. rest_digit zeros (omega (arith, below)) ∙ (trailing_is 64 (x / 2 ^ (i % 32))).here (omega (arith, below));
      }))

  -- ---- that word: the candidate's word q without the atoms that have support

  module _ (q k : ℕ) (h : k < 32) where
    atom_digit : lacks_in t ws (32 * q + k) ≡ (bit (get_or ws (candidate_at t + q) 0) k && eqb (get_or ws (support_at t + (32 * q + k)) 0) 0)
    unfolding lacks_in present_in
    atom_digit =
        let d : (32 * q + k) / 32 ≡ q = omega arith in
        let m : (32 * q + k) % 32 ≡ k = omega arith in
        rw (d, m)

    pub word_empty : get_or ws (candidate_at t + q) 0 ≡ 0 → bit 0 k ≡ lacks_in t ws (32 * q + k)
    word_empty z = bit-zero k ∙ sym (atom_digit ∙ rw (z, bit-zero k))

    pub word-lacks : (s : ℕ) → bit s k ≡ not (eqb (get_or ws (support_at t + 32 * q + k) 0) 0)
        → bit (bit_xor (bit_or (get_or ws (candidate_at t + q) 0) s) s) k ≡ lacks_in t ws (32 * q + k)
    word-lacks s p =
        let at : support_at t + 32 * q + k ≡ support_at t + (32 * q + k) = omega arith in
        bit_xor_lem (bit_or (get_or ws (candidate_at t + q) 0) s) s k
        ∙ rw (bit_or_lem (get_or ws (candidate_at t + q) 0) s k, p, at) (without (bit (get_or ws (candidate_at t + q) 0) k) (eqb (get_or ws (support_at t + (32 * q + k)) 0) 0))
        ∙ sym atom_digit
      where
        without : (a b : Bool) → unlike (a || not b) (not b) ≡ (a && b)
        without true true = refl
        without true false = refl
        without false true = refl
        without false false = refl
