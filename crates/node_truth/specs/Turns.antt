-- The turns of a loop over the operands of an And or Or.
-- Assumes nothing.
use Prim.Native.Nat.{ℕ, suc, ◌+◌, ◌-◌, ◌<◌, ◌≤◌}
use native.Mathlib.Omega.{arith}
use Rattle.std.specs.Prelude.{◌≡◌, refl, Bool, true, false, not, cond, ◌&&◌, ◌||◌, List, ltb, length, get_or, Option, Some, None}
use Rattle.std.proofs.Math.Path.{sym}
use Rattle.std.proofs.Common.{◌∙◌, lt-ltb, le-ltb}
use Rattle.std.specs.Bool.{beq}
use Rattle.theory.specs.Node.{span}
use Rattle.theory.specs.Spans.{span_more}
use Rattle.words.specs.Changed.{unlike}
use Rattle.kept.specs.Seen.{group_seen}

unlike-not : (a b : Bool) → unlike a b ≡ not (beq a b)
unlike-not true true = refl
unlike-not true false = refl
unlike-not false true = refl
unlike-not false false = refl

-- the entries from i up to e are left, and `whole` is what they say; o is the first
module _ (operands : List ℕ) (k : ℕ) (v : ℕ → Bool) (d : Bool) (i e : ℕ) (whole : Option Bool) (rest : whole ≡ group_seen k v d (span operands i (e - i))) where
  group_turn : (o : ℕ) → o ≡ get_or operands i 0 → i < e → e ≤ length operands
      → whole ≡ cond (ltb o k) (cond (unlike (v o) d) (group_seen k v d (span operands (i + 1) (e - (i + 1)))) (Some d)) None
  unfolding group_seen
  group_turn o f h l =
      let left : e - i ≡ suc (e - (i + 1)) = omega arith in
      rest ∙ rw (left, span_more operands i (e - (i + 1)) (omega arith), f)

  pub group_stray : (o : ℕ) → o ≡ get_or operands i 0 → i < e → e ≤ length operands → k ≤ o → None ≡ whole
  group_stray o f h l q = sym (group_turn o f h l ∙ rw (le-ltb o k q))

  pub group_decided : (o : ℕ) (t : Bool) → o ≡ get_or operands i 0 → i < e → e ≤ length operands → o < k → t ≡ v o → beq t d ≡ true → Some d ≡ whole
  group_decided o t f h l q p u = sym (group_turn o f h l ∙ rw (lt-ltb o k q, ← p, unlike-not t d, u))

  pub group_more : (o : ℕ) (t : Bool) → o ≡ get_or operands i 0 → i < e → e ≤ length operands → o < k → t ≡ v o → beq t d ≡ false
      → whole ≡ group_seen k v d (span operands (i + 1) (e - (i + 1)))
  group_more o t f h l q p u = group_turn o f h l ∙ rw (lt-ltb o k q, ← p, unlike-not t d, u)

  pub group_done : e ≤ i → Some (not d) ≡ whole
  unfolding group_seen span
  group_done h = let left : e - i ≡ 0 = omega arith in sym (rest ∙ rw left)

-- two entries, both below k
decided_by : (d x y : Bool) → cond (unlike x d) (cond (unlike y d) (Some (not d)) (Some d)) (Some d) ≡ Some (cond d (x || y) (x && y))
decided_by true true y = refl
decided_by true false true = refl
decided_by true false false = refl
decided_by false true true = refl
decided_by false true false = refl
decided_by false false y = refl

pub group_pair : (operands : List ℕ) (k : ℕ) (v : ℕ → Bool) (d : Bool) (i a b : ℕ) → a ≡ get_or operands i 0 → b ≡ get_or operands (i + 1) 0 → i + 2 ≤ length operands → a < k → b < k
    → Some (cond d (v a || v b) (v a && v b)) ≡ group_seen k v d (span operands i 2)
unfolding group_seen span
group_pair operands k v d i a b e f l p q =
    sym (rw (span_more operands i 1 (omega arith), span_more operands (i + 1) 0 (omega arith), ← e, ← f, lt-ltb a k p, lt-ltb b k q) (decided_by d (v a) (v b)))
