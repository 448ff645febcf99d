-- Laws of sets of words, for every width w.
-- Assumes nothing.
use Rattle.std.specs.Prelude.{ℕ, zero, suc, ◌+◌, ◌*◌, ◌/◌, ◌%◌, ◌^◌, ◌≤◌, ◌<◌, ◌≡◌, refl, Bool, true, false, not, ◌&&◌, ◌||◌, List, length, get_or, set, replicate, eqb}
use Rattle.std.proofs.Common.{div-add-mod', mod-lt, sym, ap, ap₂, ◌∙◌, length-set, get_or-set_other, eq-eqb, ne_eqb}
use Rattle.std.proofs.Math.Logic.{⊎_elim}
use Rattle.std.proofs.Math.Bool.{or_comm}
use Rattle.std.proofs.Math.ListN.{get_or-eq_default}
use Rattle.std.proofs.Math.Seq.{get_or-set_same, set_out}
use Rattle.std.proofs.Math.Pow.{pow-lt}
use Rattle.std.specs.Int.Bits.{bit_or, bit_xor}
use Rattle.std.proofs.lemmas.Nat.{or_lt, xor_lt}
use Rattle.base.specs.Tests.{equal_or, below_or}
use Rattle.words.specs.Bit.{bit}
use Rattle.words.specs.Changed.{unlike}
use Rattle.words.specs.Sets.{member, inserted, removed}
use Rattle.words.specs.BitLaws.{bit-zero, bit_or_lem, bit_xor_lem, bit_power, one_shift}

-- ---- one word replaced

same_place : (w i j : ℕ) → i / w ≡ j / w → i % w ≡ j % w → i ≡ j
same_place w i j p q = sym (div-add-mod' i w) ∙ ap₂ (λ (x y : ℕ). x * w + y) p q ∙ div-add-mod' j w

-- two places of one word are equal where their digits are
same_digit : (w i j : ℕ) → j / w ≡ i / w → eqb (i % w) (j % w) ≡ eqb i j
same_digit w i j e = ⊎_elim
    (λ r. rw (eq-eqb (i % w) (j % w) r, eq-eqb i j (same_place w i j (sym e) r)))
    (λ r. rw (ne_eqb (i % w) (j % w) r, ne_eqb i j (λ q. r (ap (λ (x : ℕ). x % w) q))))
    (equal_or (i % w) (j % w))

-- membership after the word of i is replaced by x, where f gives a digit of x by "it is that of i" and the old digit
module _ (w : ℕ) (ws : List ℕ) (i j x : ℕ) (f : Bool → Bool → Bool) (h : i / w < length ws)
    (keeps : (b : Bool) → f false b ≡ b)
    (digits : (k : ℕ) → bit x k ≡ f (eqb (i % w) k) (bit (get_or ws (i / w) 0) k)) where
  replaced : member w (set ws (i / w) x) j ≡ f (eqb i j) (member w ws j)
  unfolding member
  replaced = ⊎_elim same other (equal_or (j / w) (i / w))
    where
      same : j / w ≡ i / w → bit (get_or (set ws (i / w) x) (j / w) 0) (j % w) ≡ f (eqb i j) (bit (get_or ws (j / w) 0) (j % w))
      same e = rw (e, get_or-set_same ws (i / w) x 0 h, digits (j % w), same_digit w i j e)

      other : (j / w ≡ i / w → ⊥) → bit (get_or (set ws (i / w) x) (j / w) 0) (j % w) ≡ f (eqb i j) (bit (get_or ws (j / w) 0) (j % w))
      other ne = rw (get_or-set_other ws (i / w) (j / w) x 0 ne, ne_eqb i j (λ e. ne (ap (λ (k : ℕ). k / w) (sym e)))) (sym (keeps _))

-- ---- members

or-unlike : (a b : Bool) → unlike (a || b) b ≡ (not b && a)
or-unlike true true = refl
or-unlike true false = refl
or-unlike false true = refl
or-unlike false false = refl

pub member-inserted : (w : ℕ) (ws : List ℕ) (i j : ℕ) → i / w < length ws → member w (inserted w ws i) j ≡ (eqb i j || member w ws j)
unfolding inserted
member-inserted w ws i j h =
    replaced w ws i j (bit_or (get_or ws (i / w) 0) (2 ^ (i % w))) (λ a b. a || b) h (λ b. refl)
    (λ k. bit_or_lem (get_or ws (i / w) 0) (2 ^ (i % w)) k ∙ rw (bit_power (i % w) k) (or_comm (bit (get_or ws (i / w) 0) k) (eqb (i % w) k)))

pub member-removed : (w : ℕ) (ws : List ℕ) (i j : ℕ) → i / w < length ws → member w (removed w ws i) j ≡ (not (eqb i j) && member w ws j)
unfolding removed
member-removed w ws i j h =
    replaced w ws i j (bit_xor (bit_or (get_or ws (i / w) 0) (2 ^ (i % w))) (2 ^ (i % w))) (λ a b. not a && b) h (λ b. refl)
    (λ k. bit_xor_lem (bit_or (get_or ws (i / w) 0) (2 ^ (i % w))) (2 ^ (i % w)) k
    ∙ rw (bit_or_lem (get_or ws (i / w) 0) (2 ^ (i % w)) k, bit_power (i % w) k) (or-unlike (bit (get_or ws (i / w) 0) k) (eqb (i % w) k)))

-- a word that is 0 has no member
pub member-zero : (w : ℕ) (ws : List ℕ) (i : ℕ) → get_or ws (i / w) 0 ≡ 0 → member w ws i ≡ false
unfolding member
member-zero w ws i e = rw e (bit-zero (i % w))

get_or-zeros : (n i : ℕ) → ◌≡◌ {A = ℕ} (get_or (replicate n 0) i 0) 0
get_or-zeros zero i = refl
get_or-zeros (suc n) zero = refl
get_or-zeros (suc n) (suc i) = get_or-zeros n i

pub member-zeros : (w n i : ℕ) → member w (replicate n 0) i ≡ false
member-zeros w n i = member-zero w (replicate n 0) i (get_or-zeros n (i / w))

-- past the last word there is none
pub member_past : (w : ℕ) (ws : List ℕ) (i : ℕ) → length ws ≤ i / w → member w ws i ≡ false
member_past w ws i h = member-zero w ws i (get_or-eq_default ws 0 h)

-- ---- as code makes it: digit k alone is `1 << k`

pub insert_word : (w : ℕ) (ws : List ℕ) (i : ℕ) → 0 < w
    → set ws (i / w) (bit_or (get_or ws (i / w) 0) ((1 * 2 ^ (i % w)) % 2 ^ w)) ≡ inserted w ws i
unfolding inserted
insert_word w ws i p = rw (one_shift w (i % w) (mod-lt i p))

-- ---- lengths

pub length_inserted : (w : ℕ) (ws : List ℕ) (i : ℕ) → length (inserted w ws i) ≡ length ws
unfolding inserted
length_inserted w ws i = length-set ws (i / w) _

pub length_removed : (w : ℕ) (ws : List ℕ) (i : ℕ) → length (removed w ws i) ≡ length ws
unfolding removed
length_removed w ws i = length-set ws (i / w) _

-- ---- every word stays below 2 ^ w

module _ (w : ℕ) (ws : List ℕ) (i : ℕ) (p : 0 < w) (small : (k : ℕ) → get_or ws k 0 < 2 ^ w) where
  power_small : 2 ^ (i % w) < 2 ^ w
  power_small = pow-lt (mod-lt i p)

  or_small : bit_or (get_or ws (i / w) 0) (2 ^ (i % w)) < 2 ^ w
  or_small = or_lt w (get_or ws (i / w) 0) (2 ^ (i % w)) (small (i / w)) power_small

  set_small : (x k : ℕ) → x < 2 ^ w → get_or (set ws (i / w) x) k 0 < 2 ^ w
  set_small x k h = ⊎_elim (λ e. ⊎_elim (there e) past (below_or (i / w) (length ws))) other (equal_or k (i / w))
    where
      there : k ≡ i / w → i / w < length ws → get_or (set ws (i / w) x) k 0 < 2 ^ w
      there e l = rw (e, get_or-set_same ws (i / w) x 0 l) h

      past : length ws ≤ i / w → get_or (set ws (i / w) x) k 0 < 2 ^ w
      past l = rw (set_out ws (i / w) x l) (small k)

      other : (k ≡ i / w → ⊥) → get_or (set ws (i / w) x) k 0 < 2 ^ w
      other ne = rw (get_or-set_other ws (i / w) k x 0 ne) (small k)

  pub inserted_small : (k : ℕ) → get_or (inserted w ws i) k 0 < 2 ^ w
  unfolding inserted
  inserted_small k = set_small (bit_or (get_or ws (i / w) 0) (2 ^ (i % w))) k or_small

  pub removed_small : (k : ℕ) → get_or (removed w ws i) k 0 < 2 ^ w
  unfolding removed
  removed_small k = set_small (bit_xor (bit_or (get_or ws (i / w) 0) (2 ^ (i % w))) (2 ^ (i % w))) k (xor_lt w _ _ or_small power_small)
