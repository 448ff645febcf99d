-- Laws of the numbers of a file, for loops over them.
-- Assumes nothing.
use Prim.Native.Nat.{ℕ, zero, suc, ◌+◌, ◌-◌, ◌*◌, ◌<◌, ◌≤◌}
use native.Mathlib.Omega.{arith}
use mathlib.Core.Path.{◌≡◌, refl, sym, ap, ◌∙◌}
use mathlib.Core.Bool.{Bool, true, false}
use mathlib.Core.List.{List, [], ◌∷◌}
use lib.Dec.{leb}
use lib.ListN.{length, get_or}
use borrow.Author.Tests.{lt-ltb, le-ltb, le-leb, lt-leb, leb-true}
use Rattle.base.specs.Tests.{same_test}
use Rattle.theory.specs.Admission.{all_below}
use Rattle.record.specs.Number.{number, numbers}
use Rattle.record.specs.Rising.{rising_from, rising}
use Rattle.record.specs.Layout.{counted, arity, value_count, values_start, record_end}
use Rattle.record.specs.declared.Mark.{Mark}

pub length_numbers : (file : List ℕ) (at n : ℕ) → length (numbers file at n) ≡ n
unfolding numbers
length_numbers file at zero = refl
length_numbers file at (suc n) = ap suc (length_numbers file (at + 4) n)

pub numbers_all : (file : List ℕ) (start n : ℕ) → numbers file start n ≡ numbers file (start + 4 * 0) (n - 0)
numbers_all file start n =
    let none : n - 0 ≡ n = omega arith in
    let on : start + 4 * 0 ≡ start = omega arith in
    rw (none, on)

pub numbers_turn : (file : List ℕ) (start i n : ℕ) → i < n
    → numbers file (start + 4 * i) (n - i) ≡ number file (start + 4 * i) ∷ numbers file (start + 4 * (i + 1)) (n - (i + 1))
unfolding numbers
numbers_turn file start i n h =
    let left : n - i ≡ suc (n - (i + 1)) = omega arith in
    let on : start + 4 * (i + 1) ≡ start + 4 * i + 4 = omega arith in
    rw (left, on)

pub numbers-none : (file : List ℕ) (at i n : ℕ) → n ≤ i → numbers file at (n - i) ≡ []
unfolding numbers
numbers-none file at i n h = let left : n - i ≡ 0 = omega arith in rw left

pub numbers_first : (file : List ℕ) (start n : ℕ) → 0 < n → numbers file start n ≡ number file start ∷ numbers file (start + 4) (n - 1)
unfolding numbers
numbers_first file start zero h = absurd (omega arith)
numbers_first file start (suc n) h = let left : suc n - 1 ≡ n = omega arith in rw left

pub numbers_at : (file : List ℕ) (start i n : ℕ) → i < n → get_or (numbers file start n) i 0 ≡ number file (start + 4 * i)
unfolding numbers
numbers_at file start i zero h = absurd (omega arith)
numbers_at file start zero (suc n) h = let on : start + 4 * zero ≡ start = omega arith in rw on
numbers_at file start (suc i) (suc n) h =
    let on : start + 4 * suc i ≡ start + 4 + 4 * i = omega arith in
    rw on (numbers_at file (start + 4) i n (omega arith))

-- a loop over the values from i up to n: `whole` is what is left at each turn
module _ (file : List ℕ) (bound start i n : ℕ) (whole : Bool) (rest : whole ≡ all_below bound (numbers file (start + 4 * i) (n - i))) where
  pub below_stop : i < n → bound ≤ number file (start + 4 * i) → false ≡ whole
  unfolding all_below
  below_stop h q = sym (rest ∙ rw (numbers_turn file start i n h, le-ltb (number file (start + 4 * i)) bound q))

  pub below_go : i < n → number file (start + 4 * i) < bound → whole ≡ all_below bound (numbers file (start + 4 * (i + 1)) (n - (i + 1)))
  unfolding all_below
  below_go h q = rest ∙ rw (numbers_turn file start i n h, lt-ltb (number file (start + 4 * i)) bound q)

  pub below_done : n ≤ i → true ≡ whole
  unfolding all_below
  below_done h = sym (rest ∙ rw (numbers-none file (start + 4 * i) i n h))

module _ (file : List ℕ) (last start i n : ℕ) (whole : Bool) (rest : whole ≡ rising_from last (numbers file (start + 4 * i) (n - i))) where
  pub rising_stop : i < n → number file (start + 4 * i) ≤ last → false ≡ whole
  unfolding rising_from
  rising_stop h q = sym (rest ∙ rw (numbers_turn file start i n h, le-ltb last (number file (start + 4 * i)) q))

  pub rising_go : i < n → last < number file (start + 4 * i) → whole ≡ rising_from (number file (start + 4 * i)) (numbers file (start + 4 * (i + 1)) (n - (i + 1)))
  unfolding rising_from
  rising_go h q = rest ∙ rw (numbers_turn file start i n h, lt-ltb last (number file (start + 4 * i)) q)

  pub rising_done : n ≤ i → true ≡ whole
  unfolding rising_from
  rising_done h = sym (rest ∙ rw (numbers-none file (start + 4 * i) i n h))

pub rising_none : (file : List ℕ) (start n : ℕ) → n ≡ 0 → true ≡ rising (numbers file start n)
unfolding rising numbers
rising_none file start n e = rw e

pub rising_first : (file : List ℕ) (start n last : ℕ) → 0 < n → last ≡ number file start → rising (numbers file start n) ≡ rising_from last (numbers file (start + 4 * 1) (n - 1))
unfolding rising
rising_first file start n last h e = rw (numbers_first file start n h, e)

-- those of a loop over the values
pub ruleset below_turns = (below_stop, below_go, below_done)

pub ruleset rising_turns = (rising_none, rising_first, rising_stop, rising_go, rising_done)

-- ---- where a record ends

shifted : (a x n : ℕ) → a ≤ n → leb x (n - a) ≡ leb (a + x) n
shifted a x n h =
    same_test (leb x (n - a)) (leb (a + x) n)
    (λ e. le-leb (a + x) n (omega (arith, leb-true x (n - a) e)))
    (λ e. le-leb x (n - a) (omega (arith, leb-true (a + x) n e)))

module _ (file : List ℕ) (at : ℕ) (mark : Mark) where
  pub whole_fixed : (k : ℕ) → at + 2 ≤ length file → counted mark ≡ false → k ≡ arity mark
      → leb (4 * k) (length file - (at + 2)) ≡ leb (record_end file at mark) (length file)
  unfolding record_end values_start value_count
  whole_fixed k h e q = rw (e, ← q) (shifted (at + 2) (4 * k) (length file) h)

  pub whole_cut : length file - (at + 2) < 4 → at + 2 ≤ length file → counted mark ≡ true → false ≡ leb (record_end file at mark) (length file)
  unfolding record_end values_start value_count
  whole_cut h l e = rw e (sym (lt-leb (at + 6 + 4 * number file (at + 2)) (length file) (omega arith)))

  pub whole_counted : (k : ℕ) → at + 6 ≤ length file → counted mark ≡ true → k ≡ number file (at + 2)
      → leb (4 * k) (length file - (at + 2) - 4) ≡ leb (record_end file at mark) (length file)
  unfolding record_end values_start value_count
  whole_counted k h e q =
      let left : length file - (at + 2) - 4 ≡ length file - (at + 6) = omega arith in
      rw (e, ← q, left) (shifted (at + 6) (4 * k) (length file) h)

  pub counted_within : record_end file at mark ≤ length file → counted mark ≡ true → at + 6 ≤ length file
  unfolding record_end values_start value_count
  counted_within h e = omega (arith, rw e at h)

  pub fixed_within : record_end file at mark ≤ length file → counted mark ≡ false → at + 2 ≤ length file
  unfolding record_end values_start value_count
  fixed_within h e = omega (arith, rw e at h)

pub ruleset whole_tests = (whole_fixed, whole_cut, whole_counted, lt-leb)

pub one_number : (file : List ℕ) (at n : ℕ) → 1 ≤ n → get_or (numbers file at n) 0 0 ≡ number file at
unfolding numbers
one_number file at zero h = absurd (omega arith)
one_number file at (suc n) h = refl

pub two_numbers : (file : List ℕ) (at n : ℕ) → 2 ≤ n → (get_or (numbers file at n) 0 0 ≡ number file at) × (get_or (numbers file at n) 1 0 ≡ number file (at + 4))
unfolding numbers
two_numbers file at zero h = absurd (omega arith)
two_numbers file at (suc zero) h = absurd (omega arith)
two_numbers file at (suc (suc n)) h = (refl, refl)
