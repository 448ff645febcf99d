-- A word's set places, the lowest taken off again and again.
-- Assumes nothing.
use Prim.Native.Nat.{ℕ, ◌+◌, ◌-◌, ◌^◌, ◌≤◌, ◌<◌}
use Rattle.std.proofs.Common.{add-one}
use native.Mathlib.Omega.{arith}
use mathlib.Core.Path.{◌≡◌, sym, ap, ◌∙◌}
use mathlib.Core.List.{List, [], ◌∷◌}
use lib.ListN.{get_or}
use lib.Bits.{bit_and}
use lib.Count.{count_trailing_zeros}
use Rattle.base.specs.Places.{places, places_none}
use Rattle.words.specs.Bit.{bit}
use Rattle.words.specs.BitLaws.{bit-zero}
use Rattle.words.specs.PlaceLaws.{trailing_first}
use Rattle.words.specs.TakeOffLaws.{places_off, off_small}

-- k places are taken off: place number i of word is place number i - k of x
pub record Rest (w word i x k : ℕ) : Type 0 where
  pub small : x < 2 ^ w
  pub same : get_or (places (bit x) 0 w) (i - k) w ≡ get_or (places (bit word) 0 w) i w

pub rest_all : (w word i : ℕ) → word < 2 ^ w → Rest w word i word 0
rest_all w word i h = record { small = h; same = let e : i - 0 ≡ i = omega arith in rw e }

-- there are no more places
pub rest_none : (w word i x k : ℕ) → Rest w word i x k → x ≡ 0 → w ≡ get_or (places (bit word) 0 w) i w
rest_none w word i x k r z = ap (λ (ps : List ℕ). get_or ps (i - k) w) (sym none) ∙ r.same
  where
    none : places (bit x) 0 w ≡ []
    none = rw z (places_none (bit 0) 0 w (λ k a b. bit-zero k))

-- element number left + 1 of a list stands at left behind the first
behind_first : (ps : List ℕ) (t a left d : ℕ) → a ≡ left + 1 → get_or (t ∷ ps) a d ≡ get_or ps left d
behind_first ps t a left d e = rw (e, add-one)

-- the lowest is taken off
pub rest_less : (w word i x k : ℕ) → Rest w word i x k → (x ≡ 0 → ⊥) → k < i → Rest w word i (bit_and x (x - 1)) (k + 1)
rest_less w word i x k r ne h = record {
  small = off_small w x r.small;
  same =
      sym (behind_first (places (bit (bit_and x (x - 1))) 0 w) (count_trailing_zeros w x) (i - k) (i - (k + 1)) w (omega arith))
      ∙ ap (λ (ps : List ℕ). get_or ps (i - k) w) (sym (places_off w x (omega arith) r.small)) ∙ r.same;
}

-- the first of those left
pub rest_first : (w word i x k : ℕ) → Rest w word i x k → i ≤ k → count_trailing_zeros w x ≡ get_or (places (bit word) 0 w) i w
rest_first w word i x k r h = let z : i - k ≡ 0 = omega arith in trailing_first w x ∙ (rw z at r.same)
