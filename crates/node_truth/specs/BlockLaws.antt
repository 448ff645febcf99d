-- Blocks are gathered operand by operand, and passed where none decides.
-- Assumes nothing.
use Prim.Native.Nat.{ℕ, zero, suc, ◌+◌, ◌-◌, ◌<◌, ◌≤◌}
use Rattle.std.proofs.Common.{arith, sym, ◌∙◌, ⊎_elim}
use Rattle.std.specs.Prelude.{◌≡◌, refl, Bool, not, eqb, List, length}
use Rattle.std.proofs.Math.Bool.{true, false}
use Rattle.std.specs.Bool.{beq}
use Rattle.std.proofs.Math.ListN.{get_or}
use Rattle.base.specs.Tests.{below_or}
use Rattle.theory.specs.Node.{span}
use Rattle.kept.specs.Seen.{group_seen}
use Rattle.node_truth.specs.Blocks.{AllBelow, AllAre}
use Rattle.node_truth.specs.InWords.{true_in}
use Rattle.node_truth.specs.Turns.{group_more}

unlike_is : (b t : Bool) → beq b t ≡ false → not b ≡ t
unlike_is true true e = cc
unlike_is true false e = refl
unlike_is false true e = refl
unlike_is false false e = cc

module _ (operands : List ℕ) (first : ℕ) where
  pub below_none : (k : ℕ) → AllBelow operands k first first
  below_none k i a b = absurd (omega arith)

  pub below_more : (k j : ℕ) → AllBelow operands k first j → get_or operands j 0 < k → AllBelow operands k first (j + 1)
  below_more k j s p i a b = ⊎_elim (λ l. s i a l) (λ l. last (omega arith)) (below_or i j)
    where
      last : i ≡ j → get_or operands i 0 < k
      last e = rw e p

  module _ (kept : List ℕ) where
    pub are_none : (t : Bool) → AllAre operands kept t first first
    are_none t i a b = absurd (omega arith)

    are_more : (t : Bool) (j : ℕ) → AllAre operands kept t first j → true_in kept (get_or operands j 0) ≡ t → AllAre operands kept t first (j + 1)
    are_more t j s p i a b = ⊎_elim (λ l. s i a l) (λ l. last (omega arith)) (below_or i j)
      where
        last : i ≡ j → true_in kept (get_or operands i 0) ≡ t
        last e = rw e p

    -- by the word of the operand
    pub block_more : (t : Bool) (j : ℕ) → AllAre operands kept t first j → beq (eqb (get_or kept (8 + get_or operands j 0) 0) 0) t ≡ false → AllAre operands kept t first (j + 1)
    unfolding true_in
    block_more t j s p = are_more t j s (unlike_is (eqb (get_or kept (8 + get_or operands j 0) 0) 0) t p)

other : (d : Bool) → beq (not d) d ≡ false
other true = refl
other false = refl

-- operands that do not decide are passed
module _ (operands kept : List ℕ) (k : ℕ) (d : Bool) (e : ℕ) (inside : e ≤ length operands) where
  pub group_pass : (n i : ℕ) → i + n ≤ e → AllBelow operands k i (i + n) → AllAre operands kept (not d) i (i + n)
      → group_seen k (true_in kept) d (span operands i (e - i)) ≡ group_seen k (true_in kept) d (span operands (i + n) (e - (i + n)))
  group_pass zero i l b t = let q : i + 0 ≡ i = omega arith in rw q
  group_pass (suc n) i l b t =
      let q : i + suc n ≡ i + 1 + n = omega arith in
      rw q (
      group_more operands k (true_in kept) d i e (group_seen k (true_in kept) d (span operands i (e - i))) refl (get_or operands i 0) (not d) refl (omega arith) inside (b i (omega arith) (omega arith)) (sym (t i (omega arith) (omega arith))) (other d)
      ∙ group_pass n (i + 1) (omega arith) (λ j x y. b j (omega arith) (omega arith)) (λ j x y. t j (omega arith) (omega arith))
      )
