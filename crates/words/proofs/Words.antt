-- The next member by the words that are read, each of them below 2 ^ w as a number.
-- Assumes nothing.
use Prim.Native.Nat.{ℕ, ◌+◌, ◌*◌, ◌/◌, ◌%◌, ◌^◌, ◌≤◌, ◌<◌}
use native.Mathlib.Omega.{arith}
use mathlib.Core.Path.{◌≡◌, refl, sym, ap, ◌∙◌}
use mathlib.Core.Bool.{Bool, true, false, not, false≢true}
use mathlib.Core.List.{List}
use lib.Dec.{eqb}
use lib.ListN.{length, get_or}
use lib.Count.{count_trailing_zeros}
use Rattle.std.specs.Option.{unwrap_or}
use Rattle.std.proofs.Common.{Option, Some, None, MatchOption, mul-le-mul_left, mul-le-mul_right, lt_of_le_of_lt, div-le_self, mul_comm, div-add-mod'}
use Rattle.words.specs.Bit.{bit}
use Rattle.words.specs.Block.{AllZero}
use Rattle.words.specs.Next.{next}
use Rattle.words.specs.WordLaws.{WordLaws}
use Rattle.words.specs.BitLaws.{trailing_wider}
use Rattle.words.specs.NextLaws.{next_within, next_rest, next_here, next_pass, next-hit, next-end, next-skip}
use Rattle.words.proofs.Blocks.{marked_found, marked_there, marked_next}

module _ {X : Type 0} (w : ℕ) (number : X → ℕ) (numbers : List X → List ℕ) (laws : WordLaws w number numbers) (ws : List X) where
  some_bits : 0 < w
  some_bits = omega (arith, laws.least)

  -- the words are far fewer than 2 ^ 64 where their number of bits fits
  pub few : w * length ws < 2 ^ 64 → 32 * length ws < 2 ^ 64
  few b = omega (arith, mul-le-mul_right (length ws) laws.least, b)

  pub next_stop : (i : ℕ) → w * length ws ≤ i → next w (numbers ws) i ≡ i
  next_stop i h = next-end w (numbers ws) i (rw (laws.as_many ws) h)

  -- the answer to a search up to the last word
  pub next_or_stop : (o : Option ℕ) (q : ℕ) → MatchOption o (next w (numbers ws) (w * q) ≡ next w (numbers ws) (w * length ws)) (λ i. i ≡ next w (numbers ws) (w * q))
      → unwrap_or o (w * length ws) ≡ next w (numbers ws) (w * q)
  next_or_stop None q h = sym (h ∙ next_stop (w * length ws) (omega arith))
  next_or_stop (Some i) q h = h

  pub next_past : (i : ℕ) → length ws ≤ i / w → next w (numbers ws) i ≡ i
  next_past i h = next_stop i (omega (arith, mul-le-mul_left w h, mul_comm w (i / w), div-add-mod' i w))

  -- a block of 32 words that are 0 is passed over
  pub block_pass : (q : ℕ) → q + 32 ≤ length ws → AllZero (numbers ws) q (q + 32) → next w (numbers ws) (w * q) ≡ next w (numbers ws) (w * (q + 32))
  block_pass q l z = next-skip w (numbers ws) some_bits q (q + 32) (omega arith) (rw (laws.as_many ws) l) z

  -- what is found fits where the words' number of bits does
  fits_in : (i : ℕ) → i ≤ w * length ws → w * length ws < 2 ^ 64 → next w (numbers ws) i < 2 ^ 64
  fits_in i h b = lt_of_le_of_lt (rw (laws.as_many ws) at (next_within w (numbers ws) i (rw (laws.as_many ws) h))) b

  -- r is word q
  module _ (q : ℕ) (x : X) (r : ℕ) (is : x ≡ get_or ws q x) (value : r ≡ number x) (l : q < length ws) where
    pub read : r ≡ get_or (numbers ws) q 0
    read = value ∙ ap number is ∙ sym (laws.each ws q x l)

    there : q < length (numbers ws)
    there = rw (laws.as_many ws) l

    pub pass : r ≡ 0 → next w (numbers ws) (w * q) ≡ next w (numbers ws) (w * (q + 1))
    pass z = next_pass w (numbers ws) q some_bits there (sym read ∙ z)

    module _ (fits : r < 2 ^ w) (ne : r ≡ 0 → ⊥) where
      pub hit : next w (numbers ws) (w * q) ≡ w * q + count_trailing_zeros 64 r
      hit =
          next-hit w (numbers ws) q some_bits there (rw (← read) fits) (λ z. ne (read ∙ z))
          ∙ ap (λ (t : ℕ). w * q + t) (ap (count_trailing_zeros w) (sym read) ∙ sym (trailing_wider w 64 r (omega arith) fits laws.most))

      pub hit_fits : w * length ws < 2 ^ 64 → w * q + count_trailing_zeros 64 r < 2 ^ 64
      hit_fits b = rw (← hit) (fits_in (w * q) (mul-le-mul_left w (omega arith)) b)

  -- r is the word of i from i on
  module _ (i : ℕ) (x : X) (r : ℕ) (is : x ≡ get_or ws (i / w) x) (value : r ≡ number x / 2 ^ (i % w)) (l : i / w < length ws) where
    same : number x ≡ get_or (numbers ws) (i / w) 0
    same = read (i / w) x (number x) is refl l

    shifted : r ≡ get_or (numbers ws) (i / w) 0 / 2 ^ (i % w)
    shifted = rw (← same) value

    pub after : r ≡ 0 → next w (numbers ws) i ≡ next w (numbers ws) (w * (i / w + 1))
    after z = next_rest w (numbers ws) i some_bits (rw (laws.as_many ws) l) (sym shifted ∙ z)

    module _ (fits : number x < 2 ^ w) (ne : r ≡ 0 → ⊥) where
      pub here : next w (numbers ws) i ≡ i + count_trailing_zeros 64 r
      here =
          next_here w (numbers ws) i some_bits (rw (laws.as_many ws) l) (rw (← same) fits) (λ z. ne (shifted ∙ z))
          ∙ ap (λ (t : ℕ). i + t)
          (ap (count_trailing_zeros w) (sym shifted) ∙ sym (trailing_wider w 64 r (omega arith) (omega (arith, value, div-le_self (number x) (2 ^ (i % w)))) laws.most))

      pub here_fits : i ≤ w * length ws → w * length ws < 2 ^ 64 → i + count_trailing_zeros 64 r < 2 ^ 64
      here_fits h b = rw (← here) (fits_in i h b)

  -- the block of 32 words from word q on is not all 0, and the digits of m tell which words of it are not
  module _ (q m : ℕ) (empty : Bool) (marks : (k : ℕ) → k < 32 → bit m k ≡ not (eqb (get_or (numbers ws) (q + k) 0) 0))
      (test : AllZero (numbers ws) q (q + 32) → empty ≡ true) (no : empty ≡ false) (l : q + 32 ≤ length ws) where
    abbrev i : ℕ
    i = q + count_trailing_zeros 32 m

    some : AllZero (numbers ws) q (q + 32) → ⊥
    some z = false≢true (sym no ∙ test z)

    pub block_in : q + count_trailing_zeros 32 m < length ws
    block_in = omega (arith, marked_found (numbers ws) q 32 m marks some)

    pub block_times : w * length ws < 2 ^ 64 → w * (q + count_trailing_zeros 32 m) < 2 ^ 64
    block_times b = let l : i ≤ length ws = omega (arith, block_in) in omega (arith, mul-le-mul_left w l, b)

    module _ (x : X) (r : ℕ) (is : x ≡ get_or ws (q + count_trailing_zeros 32 m) x) (value : r ≡ number x) (fits : r < 2 ^ w) where
      pub block_some : r ≡ 0 → ⊥
      block_some z = marked_there (numbers ws) q 32 m marks some (sym (read i x r is value block_in) ∙ z)

      pub block_hit : next w (numbers ws) (w * q) ≡ w * (q + count_trailing_zeros 32 m) + count_trailing_zeros 64 r
      block_hit =
          marked_next (numbers ws) q 32 m marks some w some_bits (rw (laws.as_many ws) l) (rw (← here) fits)
          ∙ ap (λ (t : ℕ). w * i + t) (ap (count_trailing_zeros w) (sym here) ∙ sym (trailing_wider w 64 r (omega (arith, block_some)) fits laws.most))
        where
          here : r ≡ get_or (numbers ws) i 0
          here = read i x r is value block_in

      pub block_fits : w * length ws < 2 ^ 64 → w * (q + count_trailing_zeros 32 m) + count_trailing_zeros 64 r < 2 ^ 64
      block_fits = hit_fits i x r is value block_in fits block_some
