-- Place number 0 of a word, as `bits` answers it: the width w if there is none.
-- Assumes nothing.
use Rattle.std.specs.Prelude.{ℕ, zero, suc, ◌-◌, ◌^◌, ◌<◌, ◌≡◌, true, [], ◌∷◌, get_or}
use Rattle.std.proofs.Common.{zero-add, arith, sym, ◌∙◌}
use Rattle.std.proofs.lemmas.Bool.{false≢true}
use Rattle.std.specs.Int.Bits.{bit_and}
use Rattle.std.specs.Int.Count.{count_trailing_zeros}
use Rattle.base.specs.Places.{places, places_none, lowest, Lowest}
use Rattle.words.specs.Bit.{bit}
use Rattle.words.specs.BitLaws.{bit-zero, trailing_lowest, trailing_is}
use Rattle.words.specs.TakeOffLaws.{places_off}

-- it is `trailing_zeros`
pub trailing_first : (w x : ℕ) → count_trailing_zeros w x ≡ get_or (places (bit x) 0 w) 0 w
unfolding lowest
trailing_first w x = rw zero-add at (trailing_lowest w x)

-- k is the answer
module _ (w x k : ℕ) (is : k ≡ get_or (places (bit x) 0 w) 0 w) where
  pub place_trailing : k ≡ count_trailing_zeros w x
  place_trailing = is ∙ sym (trailing_first w x)

  first : Lowest (bit x) 0 w k
  first = rw place_trailing (trailing_is w x)

  pub place_none : k ≡ w → places (bit x) 0 w ≡ []
  place_none e = places_none (bit x) 0 w (λ j a b. first.before j a (omega arith))

  module _ (ne : k ≡ w → ⊥) where
    pub place_below : k < w
    place_below = omega (arith, first.within)

    pub place_set : bit x k ≡ true
    place_set = first.here (omega (arith, place_below))

    pub place_some : 0 < x
    place_some = go x place_set
      where
        go : (y : ℕ) → bit y k ≡ true → 0 < y
        go zero e = absurd (false≢true (sym (bit-zero k) ∙ e))
        go (suc y) e = omega arith

    -- once it is taken off the others are left
    pub place_off : x < 2 ^ w → places (bit x) 0 w ≡ k ∷ places (bit (bit_and x (x - 1))) 0 w
    place_off h = rw place_trailing (places_off w x place_some h)
