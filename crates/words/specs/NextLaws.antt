-- The next member, found word by word, for every width w.
-- Assumes nothing.
use Prim.Native.Nat.{ℕ, zero, suc, ◌+◌, ◌-◌, ◌*◌, ◌/◌, ◌%◌, ◌^◌, ◌≤◌, ◌<◌}
use Rattle.std.proofs.Math.Nat.{div-add-mod', mul-div_right, mul-mod_right}
use Rattle.std.proofs.Common.{div-one, mod-lt, mul_comm, mul-add, mul-one, mul-le-mul_left, ap, ◌∙◌, shr_lt}
use native.Mathlib.Omega.{arith}
use Rattle.std.specs.Prelude.{◌≡◌, false, List, get_or}
use Rattle.std.proofs.Math.Path.{sym}
use Rattle.std.proofs.Math.ListN.{length}
use Rattle.std.proofs.Math.Arith.{digits_div, digits_mod}
use Rattle.std.specs.Int.Count.{count_trailing_zeros}
use Rattle.base.specs.Places.{Lowest, lowest_is, lowest-only, lowest_skip}
use Rattle.words.specs.Bit.{bit}
use Rattle.words.specs.Sets.{member}
use Rattle.words.specs.Next.{next}
use Rattle.words.specs.Block.{AllZero}
use Rattle.words.specs.BitLaws.{bit_shift, bit-zero, trailing_is, trailing_below}

-- the next member is the lowest from i on
pub next_is : (w : ℕ) (ws : List ℕ) (i : ℕ) → Lowest (member w ws) i (w * length ws - i) (next w ws i)
unfolding next
next_is w ws i = lowest_is (member w ws) i (w * length ws - i)

pub next_within : (w : ℕ) (ws : List ℕ) (i : ℕ) → i ≤ w * length ws → next w ws i ≤ w * length ws
next_within w ws i h = omega (arith, (next_is w ws i).within)

-- past the last word there is none
pub next-end : (w : ℕ) (ws : List ℕ) (i : ℕ) → w * length ws ≤ i → next w ws i ≡ i
next-end w ws i h = omega (arith, (next_is w ws i).from, (next_is w ws i).within)

module _ (w : ℕ) (ws : List ℕ) (i : ℕ) (p : 0 < w) (l : i / w < length ws) where
  -- the rest of the word of i, from i on
  rest : ℕ
  rest = get_or ws (i / w) 0 / 2 ^ (i % w)

  start : w * (i / w) + i % w ≡ i
  start = rw (mul_comm w (i / w)) (div-add-mod' i w)

  stop : w * (i / w + 1) ≡ w * (i / w) + w
  stop = mul-add w (i / w) 1 ∙ ap (λ (x : ℕ). w * (i / w) + x) (mul-one w)

  inside : w * (i / w + 1) ≤ w * length ws
  inside = mul-le-mul_left w (omega arith)

  -- its members
  member-rest : (k : ℕ) → i % w + k < w → member w ws (i + k) ≡ bit rest k
  unfolding member rest
  member-rest k h = rw (at, digits_div (i / w) h, digits_mod (i / w) h) (sym (bit_shift (get_or ws (i / w) 0) (i % w) k))
    where
      at : i + k ≡ i / w * w + (i % w + k)
      at = omega (arith, div-add-mod' i w)

  pub next_rest : get_or ws (i / w) 0 / 2 ^ (i % w) ≡ 0 → next w ws i ≡ next w ws (w * (i / w + 1))
  unfolding next rest
  next_rest z = rw range (lowest_skip (member w ws) i n (w * length ws - w * (i / w + 1)) none ∙ rw to)
    where
      n : ℕ
      n = w * (i / w + 1) - i

      to : i + n ≡ w * (i / w + 1)
      to = omega (arith, start, stop, mod-lt i p)

      range : w * length ws - i ≡ n + (w * length ws - w * (i / w + 1))
      range = omega (arith, to, inside)

      none : (k : ℕ) → i ≤ k → k < i + n → member w ws k ≡ false
      none k a b =
          let e : i + (k - i) ≡ k = omega arith in
          rw (← e) (member-rest (k - i) (omega (arith, to, start, stop)) ∙ rw z (bit-zero (k - i)))

  pub next_here : get_or ws (i / w) 0 < 2 ^ w → (get_or ws (i / w) 0 / 2 ^ (i % w) ≡ 0 → ⊥)
      → next w ws i ≡ i + count_trailing_zeros w (get_or ws (i / w) 0 / 2 ^ (i % w))
  unfolding next rest
  next_here s ne = sym (lowest-only (member w ws) i (w * length ws - i) (i + t) (record {
    from = omega arith;
    within = omega (arith, start, stop, inside, below);
    before = λ k a b.
        let e : i + (k - i) ≡ k = omega arith in
        rw (← e) (member-rest (k - i) (omega (arith, below)) ∙ (trailing_is w rest).before (k - i) (omega arith) (omega arith));
    here = λ h. member-rest t (omega (arith, below)) ∙ (trailing_is w rest).here (omega (arith, below));
  }))
    where
      t : ℕ
      t = count_trailing_zeros w rest

      below : t < w - i % w
      below = trailing_below w (w - i % w) rest (omega arith)
          (shr_lt (w - i % w) (i % w) (let e : w - i % w + i % w ≡ w = omega (arith, mod-lt i p) in rw e s))
          (omega arith)

-- ---- from the start of word q on

module _ (w : ℕ) (ws : List ℕ) (q : ℕ) (p : 0 < w) (l : q < length ws) where
  word : w * q / w ≡ q
  word = mul-div_right q p

  first : get_or ws (w * q / w) 0 / 2 ^ (w * q % w) ≡ get_or ws q 0
  first = rw (word, mul-mod_right w q) (div-one (get_or ws q 0))

  -- a word that is 0 is passed over
  pub next_pass : get_or ws q 0 ≡ 0 → next w ws (w * q) ≡ next w ws (w * (q + 1))
  next_pass z = next_rest w ws (w * q) p (rw word l) (first ∙ z) ∙ rw word

  -- any other gives its lowest member
  pub next-hit : get_or ws q 0 < 2 ^ w → (get_or ws q 0 ≡ 0 → ⊥) → next w ws (w * q) ≡ w * q + count_trailing_zeros w (get_or ws q 0)
  next-hit s ne = next_here w ws (w * q) p (rw word l) (rw word s) (λ z. ne (sym first ∙ z)) ∙ rw first

-- ---- words that are 0 are passed over

module _ (w : ℕ) (ws : List ℕ) (p : 0 < w) where
  skip_by : (n a e : ℕ) → a + n ≡ e → e ≤ length ws → AllZero ws a e → next w ws (w * a) ≡ next w ws (w * e)
  skip_by zero a e q h z = let same : a ≡ e = omega arith in rw same
  skip_by (suc n) a e q h z =
      next_pass w ws a p (omega arith) (z a (omega arith) (omega arith))
      ∙ skip_by n (a + 1) e (omega arith) h (λ k c d. z k (omega arith) d)

  pub next-skip : (a e : ℕ) → a ≤ e → e ≤ length ws → AllZero ws a e → next w ws (w * a) ≡ next w ws (w * e)
  next-skip a e l h z = skip_by (e - a) a e (omega arith) h z
