-- Laws of spans and of what stands below a node in them.
-- Assumes nothing.
use Prim.Native.Nat.{ℕ, suc, ◌+◌, ◌-◌, ◌<◌, ◌≤◌}
use Rattle.std.proofs.Common.{add-one, ap, ◌∙◌, length-drop, drop-cons, length-take-le, get_or-take, get_or-drop, ltb-true, lt-ltb, le-ltb}
use native.Mathlib.Omega.{arith}
use Rattle.std.specs.Prelude.{◌≡◌, refl, Bool, true, false, ◌&&◌, List, [], ◌∷◌, ltb, length, get_or, take, drop}
use Rattle.std.proofs.Math.Path.{sym}
use Rattle.base.specs.Tests.{both, both_left, both_right}
use Rattle.base.specs.Each.{Each, each_at}
use Rattle.theory.specs.Node.{span}
use Rattle.theory.specs.Admission.{all_below}

pub span_more : (operands : List ℕ) (i m : ℕ) → i < length operands → span operands i (suc m) ≡ get_or operands i 0 ∷ span operands (i + 1) m
unfolding span
span_more operands i m h = ap (take (suc m)) (drop-cons operands i 0 h) ∙ rw add-one

pub length-span : (operands : List ℕ) (s c : ℕ) → s + c ≤ length operands → length (span operands s c) ≡ c
unfolding span
length-span operands s c h = length-take-le c (drop s operands) (omega (arith, length-drop s operands))

pub all_below_each : (k : ℕ) (os : List ℕ) → all_below k os ≡ true → Each (λ o. o < k) os
unfolding all_below
all_below_each k [] e = tt
all_below_each k (o ∷ os) e = (ltb-true o k (both_left (ltb o k) (all_below k os) e), all_below_each k os (both_right (ltb o k) (all_below k os) e))

pub each_all_below : (k : ℕ) (os : List ℕ) → Each (λ o. o < k) os → all_below k os ≡ true
unfolding all_below
each_all_below k [] h = refl
each_all_below k (o ∷ os) h = both (lt-ltb o k h.0) (each_all_below k os h.1)

-- a loop over the entries from i up to e: `whole` is what is left at each turn
module _ (operands : List ℕ) (k i e : ℕ) (whole : Bool) (rest : whole ≡ all_below k (span operands i (e - i))) where
  below_turn : i < e → e ≤ length operands → whole ≡ (ltb (get_or operands i 0) k && all_below k (span operands (i + 1) (e - (i + 1))))
  unfolding all_below
  below_turn h l =
      let left : e - i ≡ suc (e - (i + 1)) = omega arith in
      rest ∙ rw (left, span_more operands i (e - (i + 1)) (omega arith))

  pub below_stop : i < e → e ≤ length operands → k ≤ get_or operands i 0 → false ≡ whole
  below_stop h l q = sym (below_turn h l ∙ rw (le-ltb (get_or operands i 0) k q))

  pub below_go : i < e → e ≤ length operands → get_or operands i 0 < k → whole ≡ all_below k (span operands (i + 1) (e - (i + 1)))
  below_go h l q = below_turn h l ∙ rw (lt-ltb (get_or operands i 0) k q)

  pub below_done : e ≤ i → true ≡ whole
  unfolding all_below span
  below_done h = let left : e - i ≡ 0 = omega arith in sym (rest ∙ rw left)

-- the count entries from start on stand in the table and are below n
pub record Indexed (operands : List ℕ) (n start count : ℕ) : Type 0 where
  pub within : start + count ≤ length operands
  pub lower : (i : ℕ) → start ≤ i → i < start + count → get_or operands i 0 < n

pub each_indexed : (operands : List ℕ) (n k start count : ℕ) → k ≤ n → start + count ≤ length operands → Each (λ o. o < k) (span operands start count) → Indexed operands n start count
unfolding span
each_indexed operands n k start count m l h =
    record {
      within = l;
      lower = λ i a b.
          let at : start + (i - start) ≡ i = omega arith in
          let low = each_at (λ o. o < k) 0 (span operands start count) h (i - start) (omega (arith, length-span operands start count l)) in
          let same : get_or (span operands start count) (i - start) 0 ≡ get_or operands i 0 = get_or-take count (drop start operands) (i - start) 0 (omega arith) ∙ get_or-drop start operands (i - start) 0 ∙ ap (λ j. get_or operands j 0) at in
          omega (arith, same, low);
    }
