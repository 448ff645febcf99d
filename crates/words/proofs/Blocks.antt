-- Words one after the other: which of them are 0.
-- Assumes nothing.
use Prim.Native.Nat.{ℕ, ◌+◌, ◌-◌, ◌*◌, ◌%◌, ◌^◌, ◌≤◌, ◌<◌}
use native.Mathlib.Omega.{arith}
use mathlib.Core.Path.{◌≡◌, refl, sym, ◌∙◌}
use mathlib.Core.Logic.{⊎_elim}
use mathlib.Core.Bool.{false, not}
use mathlib.Core.List.{List}
use lib.ListN.{length, get_or}
use lib.Dec.{eqb}
use lib.Bits.{bit_or, or_add_and, and_le_l, and_le_r}
use lib.Count.{count_trailing_zeros}
use borrow.Author.Tests.{eq-eqb, ne_eqb, eqb-true, eqb-false, not-true, not-false}
use Rattle.base.specs.Tests.{equal_or, below_or, or-false}
use Rattle.words.specs.Bit.{bit}
use Rattle.words.specs.Block.{AllZero}
use Rattle.words.specs.Next.{next}
use Rattle.words.specs.BitLaws.{bit-zero, bit_or_lem, bit_power, one_shift, trailing_is}
use Rattle.words.specs.NextLaws.{next-skip, next-hit}

-- the digits of x below k tell which of the words from `first` on are not 0, and no other is set
pub record Marked (ws : List ℕ) (first k x : ℕ) : Type 0 where
  pub below : (j : ℕ) → j < k → bit x j ≡ not (eqb (get_or ws (first + j) 0) 0)
  pub past : (j : ℕ) → k ≤ j → bit x j ≡ false

pub marked_none : (ws : List ℕ) (first : ℕ) → Marked ws first 0 0
marked_none ws first = record { below = λ j h. absurd (omega arith); past = λ j h. bit-zero j }

module _ (ws : List ℕ) (first k x : ℕ) (m : Marked ws first k x) where
  -- a word that is 0
  pub marked_no : get_or ws (first + k) 0 ≡ 0 → Marked ws first (k + 1) x
  marked_no z = record {
    below = λ j h. ⊎_elim (λ e. rw e (m.past k (omega arith) ∙ rw (eq-eqb _ _ z))) (λ ne. m.below j (omega arith)) (equal_or j k);
    past = λ j h. m.past j (omega arith);
  }

  -- any other
  pub marked_yes : (w : ℕ) → k < w → (get_or ws (first + k) 0 ≡ 0 → ⊥) → Marked ws first (k + 1) (bit_or x ((1 * 2 ^ k) % 2 ^ w))
  marked_yes w l n = rw (one_shift w k l) (record {
    below = λ j h. ⊎_elim (here j) (λ ne. other j ne ∙ m.below j (omega arith)) (equal_or j k);
    past = λ j h. other j (λ e. omega arith) ∙ m.past j (omega arith);
  })
    where
      other : (j : ℕ) → (j ≡ k → ⊥) → bit (bit_or x (2 ^ k)) j ≡ bit x j
      other j ne = bit_or_lem x (2 ^ k) j ∙ rw (bit_power k j, ne_eqb k j (λ e. ne (sym e))) (or-false (bit x j))

      here : (j : ℕ) → j ≡ k → bit (bit_or x (2 ^ k)) j ≡ not (eqb (get_or ws (first + j) 0) 0)
      here j e = rw e (bit_or_lem x (2 ^ k) k ∙ rw (m.past k (omega arith), bit_power k k, eq-eqb k k refl, ne_eqb _ _ n))

-- ---- the first word that is not 0, by the digits of x

module _ (ws : List ℕ) (q n x : ℕ) (d : (k : ℕ) → k < n → bit x k ≡ not (eqb (get_or ws (q + k) 0) 0))
    (some : AllZero ws q (q + n) → ⊥) where
  t : ℕ
  t = count_trailing_zeros n x

  zeros : AllZero ws q (q + t)
  unfolding t
  zeros k a b =
      let e : q + (k - q) ≡ k = omega arith in
      rw (← e) (eqb-true _ _ (not-false _ (sym (d (k - q) (omega (arith, (trailing_is n x).within))) ∙ (trailing_is n x).before (k - q) (omega arith) (omega arith))))

  pub marked_found : count_trailing_zeros n x < n
  unfolding t
  marked_found = ⊎_elim (λ h. h) (λ h. absurd (some (λ k a b. zeros k a (omega arith)))) (below_or t n)

  pub marked_there : get_or ws (q + count_trailing_zeros n x) 0 ≡ 0 → ⊥
  unfolding t
  marked_there = eqb-false _ _ (not-true _ (sym (d t marked_found) ∙ (trailing_is n x).here (omega (arith, marked_found))))

  pub marked_next : (w : ℕ) → 0 < w → q + n ≤ length ws → get_or ws (q + count_trailing_zeros n x) 0 < 2 ^ w
      → next w ws (w * q) ≡ w * (q + count_trailing_zeros n x) + count_trailing_zeros w (get_or ws (q + count_trailing_zeros n x) 0)
  unfolding t
  marked_next w p h s =
      next-skip w ws p q (q + t) (omega arith) (omega (arith, marked_found)) zeros
      ∙ next-hit w ws (q + t) p (omega (arith, marked_found)) s marked_there

-- ---- the or of the words from `first` up to q

-- x is 0 exactly if they all are
pub record Gathered (ws : List ℕ) (first q x : ℕ) : Type 0 where
  pub clear : x ≡ 0 → AllZero ws first q
  pub zero : AllZero ws first q → x ≡ 0

or-none : (a b : ℕ) → bit_or a b ≡ 0 → (a ≡ 0) × (b ≡ 0)
or-none a b e = (omega (arith, or_add_and a b, and_le_l a b, and_le_r a b), omega (arith, or_add_and a b, and_le_l a b, and_le_r a b))

pub gathered_more : (ws : List ℕ) (first q x : ℕ) → first ≤ q → Gathered ws first q x → Gathered ws first (q + 1) (bit_or x (get_or ws q 0))
gathered_more ws first q x l g = record {
  clear = λ e k a b.
      ⊎_elim (λ s. rw s (or-none x (get_or ws q 0) e).1) (λ ne. g.clear (or-none x (get_or ws q 0) e).0 k a (omega arith)) (equal_or k q);
  zero = λ z. rw (g.zero (λ k a b. z k a (omega arith)), z q l (omega arith));
}
