-- The words of a pair laid into the kept candidate at once: its changed atoms become as the new words have them.
-- Assumes nothing.
use Prim.Native.Nat.{ℕ, zero, suc, ◌<◌, ◌≤◌, ◌+◌, ◌-◌, ◌*◌, ◌/◌, ◌%◌, ◌^◌}
use Rattle.std.proofs.Common.{arith, mod-lt, sym, ◌∙◌, ⊎_elim, true≢false, length-set, pow_pos, get_or-set_same, get_or-set_other, eq-eqb}
use Rattle.std.specs.Prelude.{◌≡◌, Bool, get_or, set}
use Rattle.std.proofs.Math.Path.{refl, ap}
use Rattle.std.proofs.Math.Bool.{true, false}
use mathlib.Core.List.{List, [], ◌∷◌}
use Rattle.std.proofs.Math.ListN.{length}
use Rattle.base.specs.Tests.{equal_or, below_or}
use Rattle.base.specs.Places.{places, places-yes, places_no}
use Rattle.formula.specs.Satisfaction.{Interpretation}
use Rattle.words.specs.Bit.{bit}
use Rattle.words.specs.BitLaws.{bit_shift}
use Rattle.words.specs.Changed.{unlike}
use Rattle.words.specs.Sets.{member}
use Rattle.words.specs.SetLaws.{member-inserted, member-removed, inserted_small, removed_small}
use Rattle.kept.specs.SetOfLaws.{Small, same_words}
use Rattle.kept.specs.CountedSet.{with_bit}
use Rattle.kept_laws.specs.FitsLaws.{length-bit}
use Rattle.words.specs.Halves.{digit_low}
use Rattle.kept_laws.specs.StartChanged.{bit_other}
use Rattle.start.specs.PairLaws.{place_member}
use Rattle.start.specs.Moved.{bits_laid}

-- ---- one place

bit_same : (ws : List ℕ) (a : ℕ) (x : Bool) → a / 32 < length ws → member 32 (with_bit ws a x) a ≡ x
unfolding with_bit
bit_same ws a true l = member-inserted 32 ws a a l ∙ rw (eq-eqb a a refl)
bit_same ws a false l = member-removed 32 ws a a l ∙ rw (eq-eqb a a refl)

bit_small : (ws : List ℕ) (a : ℕ) (x : Bool) → Small 32 ws → Small 32 (with_bit ws a x)
unfolding with_bit
bit_small ws a true s = inserted_small 32 ws a (omega arith) s
bit_small ws a false s = removed_small 32 ws a (omega arith) s

-- ---- the places at which D holds

module _ (J : Interpretation) where
  length-laid : (more ws : List ℕ) → length (bits_laid J more ws) ≡ length ws
  unfolding bits_laid
  length-laid [] ws = refl
  length-laid (a ∷ more) ws = length-laid more (with_bit ws a (J a)) ∙ length-bit ws a (J a)

  small_laid : (more ws : List ℕ) → Small 32 ws → Small 32 (bits_laid J more ws)
  unfolding bits_laid
  small_laid [] ws s = s
  small_laid (a ∷ more) ws s = small_laid more (with_bit ws a (J a)) (bit_small ws a (J a) s)

  laid_more : (a : ℕ) (more ws : List ℕ) → bits_laid J (a ∷ more) ws ≡ bits_laid J more (with_bit ws a (J a))
  unfolding bits_laid
  laid_more a more ws = refl

  laid_none : (ws : List ℕ) → bits_laid J [] ws ≡ ws
  unfolding bits_laid
  laid_none ws = refl

  module _ (D : ℕ → Bool) (n from upto : ℕ) (within : (k : ℕ) → from ≤ k → k < upto → D k ≡ true → k / 32 < n) where
    abbrev laid : ℕ → ℕ → List ℕ → List ℕ
    laid i m ws = bits_laid J (places D i m) ws

    laid-yes : (i m : ℕ) (ws : List ℕ) → D i ≡ true → laid i (suc m) ws ≡ laid (i + 1) m (with_bit ws i (J i))
    laid-yes i m ws e = ap (λ ks. bits_laid J ks ws) (places-yes D i m e) ∙ laid_more i (places D (i + 1) m) ws

    laid_no : (i m : ℕ) (ws : List ℕ) → D i ≡ false → laid i (suc m) ws ≡ laid (i + 1) m ws
    laid_no i m ws e = ap (λ ks. bits_laid J ks ws) (places_no D i m e)

    -- a place that is none of them stays
    laid_stays : (m i : ℕ) (ws : List ℕ) → from ≤ i → i + m ≤ upto → length ws ≡ n → (a : ℕ) → ((k : ℕ) → i ≤ k → k < i + m → D k ≡ true → k ≡ a → ⊥)
        → member 32 (laid i m ws) a ≡ member 32 ws a
    unfolding places
    laid_stays zero i ws f u l a other = ap (λ c. member 32 c a) (laid_none ws)
    laid_stays (suc m) i ws f u l a other = go (D i) refl (λ c p. laid_stays m (i + 1) c (omega arith) (omega arith) p a (λ k b d. other k (omega arith) (omega arith)))
      where
        go : (b : Bool) → D i ≡ b → ((c : List ℕ) → length c ≡ n → member 32 (laid (i + 1) m c) a ≡ member 32 c a)
            → member 32 (laid i (suc m) ws) a ≡ member 32 ws a
        go true e ih =
            ap (λ c. member 32 c a) (laid-yes i m ws e) ∙ ih (with_bit ws i (J i)) (length-bit ws i (J i) ∙ l)
            ∙ bit_other ws i a (J i) (rw l (within i f (omega arith) e)) (other i (omega arith) (omega arith) e)
        go false e ih = ap (λ c. member 32 c a) (laid_no i m ws e) ∙ ih ws l

    laid_there : (m i : ℕ) (ws : List ℕ) → from ≤ i → i + m ≤ upto → length ws ≡ n → (a : ℕ) → i ≤ a → a < i + m → D a ≡ true → member 32 (laid i m ws) a ≡ J a
    laid_there zero i ws f u l a b d e = absurd (omega arith)
    laid_there (suc m) i ws f u l a b d e =
        ⊎_elim (λ p. here p)
        (λ p. later p (λ c q. laid_there m (i + 1) c (omega arith) (omega arith) q a (omega (arith, p)) (omega arith) e))
        (equal_or i a)
      where
        here : i ≡ a → member 32 (laid i (suc m) ws) a ≡ J a
        here p =
            ap (λ c. member 32 c a) (laid-yes i m ws (rw p e))
            ∙ laid_stays m (i + 1) (with_bit ws i (J i)) (omega arith) (omega arith) (length-bit ws i (J i) ∙ l) a (λ k x y z q. omega arith)
            ∙ rw p (bit_same ws a (J a) (rw l (within a (omega arith) (omega arith) e)))

        later : (i ≡ a → ⊥) → ((c : List ℕ) → length c ≡ n → member 32 (laid (i + 1) m c) a ≡ J a) → member 32 (laid i (suc m) ws) a ≡ J a
        later p ih = go (D i) refl
          where
            go : (b : Bool) → D i ≡ b → member 32 (laid i (suc m) ws) a ≡ J a
            go true q = ap (λ c. member 32 c a) (laid-yes i m ws q) ∙ ih (with_bit ws i (J i)) (length-bit ws i (J i) ∙ l)
            go false q = ap (λ c. member 32 c a) (laid_no i m ws q) ∙ ih ws l

-- ---- a pair

-- of a candidate's words ws with pair j replaced by new
pub record Replaced (ws : List ℕ) (j new : ℕ) (after : List ℕ) : Type 0 where
  pub long : length after ≡ length ws
  pub small : Small 32 after
  pub here : (k : ℕ) → k < 64 → (j * 64 + k) / 32 < length ws → member 32 after (j * 64 + k) ≡ bit new k
  pub before : (a : ℕ) → a < j * 64 → member 32 after a ≡ member 32 ws a
  pub behind : (a : ℕ) → j * 64 + 64 ≤ a → member 32 after a ≡ member 32 ws a

module _ (J : Interpretation) (ws : List ℕ) (j new : ℕ) (small : Small 32 ws) (same : (k : ℕ) → k < 64 → J (j * 64 + k) ≡ bit new k)
    (within : (k : ℕ) → k < 64 → unlike (member 32 ws (j * 64 + k)) (bit new k) ≡ true → (j * 64 + k) / 32 < length ws)
    (after : List ℕ) (r : Replaced ws j new after) where
  abbrev differs : ℕ → Bool
  differs a = unlike (member 32 ws a) (J a)

  like : (b c : Bool) → unlike b c ≡ false → b ≡ c
  like true true e = refl
  like true false e = e
  like false true e = sym e
  like false false e = refl

  abbrev all : List ℕ
  all = bits_laid J (places differs (j * 64) 64) ws

  within_pair : (a : ℕ) → j * 64 ≤ a → a < j * 64 + 64 → differs a ≡ true → a / 32 < length ws
  within_pair a f u e =
      let p : a ≡ j * 64 + (a - j * 64) = omega arith in
      rw p (within (a - j * 64) (omega arith) (rw (← same (a - j * 64) (omega arith), ← p) e))

  stays : (a : ℕ) → ((k : ℕ) → j * 64 ≤ k → k < j * 64 + 64 → differs k ≡ true → k ≡ a → ⊥) → member 32 all a ≡ member 32 ws a
  stays a other = laid_stays J differs (length ws) (j * 64) (j * 64 + 64) within_pair 64 (j * 64) ws (omega arith) (omega arith) refl a other

  in_pair : (k : ℕ) → k < 64 → (j * 64 + k) / 32 < length ws → member 32 all (j * 64 + k) ≡ member 32 after (j * 64 + k)
  in_pair k l w = go (differs (j * 64 + k)) refl ∙ same k l ∙ sym (r.here k l w)
    where
      go : (b : Bool) → differs (j * 64 + k) ≡ b → member 32 all (j * 64 + k) ≡ J (j * 64 + k)
      go true e =
          laid_there J differs (length ws) (j * 64) (j * 64 + 64) within_pair 64 (j * 64) ws (omega arith) (omega arith) refl (j * 64 + k) (omega arith) (omega arith) e
      go false e =
          stays (j * 64 + k) (λ i x y z q. true≢false (sym z ∙ ap differs q ∙ e)) ∙ like (member 32 ws (j * 64 + k)) (J (j * 64 + k)) e

  at : (a : ℕ) → a < length ws * 32 → member 32 all a ≡ member 32 after a
  at a l = ⊎_elim
      (λ b. stays a (λ k x y z q. omega arith) ∙ sym (r.before a b))
      (λ b. ⊎_elim (inside b) (λ d. stays a (λ k x y z q. omega arith) ∙ sym (r.behind a d)) (below_or a (j * 64 + 64)))
      (below_or a (j * 64))
    where
      inside : j * 64 ≤ a → a < j * 64 + 64 → member 32 all a ≡ member 32 after a
      inside b d =
          let p : j * 64 + (a - j * 64) ≡ a = omega arith in
          rw p at (in_pair (a - j * 64) (omega arith) (omega arith))

  pub laid_replaced : bits_laid J (places differs (j * 64) 64) ws ≡ after
  laid_replaced =
      let long : length all ≡ length ws = length-laid J (places differs (j * 64) 64) ws in
      same_words 32 all after (long ∙ sym r.long) (small_laid J (places differs (j * 64) 64) ws small) r.small (λ a l. at a (rw long at l))

-- ---- its words stored

module _ (ws : List ℕ) (j new : ℕ) (after : List ℕ) (long : length after ≡ length ws) (small : Small 32 after)
    (low : get_or after (2 * j) 0 ≡ new % 2 ^ 32) (high : 2 * j + 1 < length ws → get_or after (2 * j + 1) 0 ≡ new / 2 ^ 32)
    (others : (q : ℕ) → (q ≡ 2 * j → ⊥) → (q ≡ 2 * j + 1 → ⊥) → get_or after q 0 ≡ get_or ws q 0) where
  digits : (k : ℕ) → k < 64 → (j * 64 + k) / 32 < length ws → member 32 after (j * 64 + k) ≡ bit new k
  digits k l w = ⊎_elim below above (below_or k 32)
    where
      below : k < 32 → member 32 after (j * 64 + k) ≡ bit new k
      below c =
          let e : j * 64 + k ≡ 2 * j * 32 + k = omega arith in
          ap (member 32 after) e ∙ place_member 32 after (2 * j) k c ∙ ap (λ x. bit x k) low ∙ digit_low new k c

      above : 32 ≤ k → member 32 after (j * 64 + k) ≡ bit new k
      above c =
          let e : j * 64 + k ≡ (2 * j + 1) * 32 + (k - 32) = omega arith in
          let f : 32 + (k - 32) ≡ k = omega arith in
          ap (member 32 after) e ∙ place_member 32 after (2 * j + 1) (k - 32) (omega arith) ∙ ap (λ x. bit x (k - 32)) (high (omega arith))
          ∙ bit_shift new 32 (k - 32) ∙ ap (bit new) f

  beside : (a : ℕ) → (a / 32 ≡ 2 * j → ⊥) → (a / 32 ≡ 2 * j + 1 → ⊥) → member 32 after a ≡ member 32 ws a
  unfolding member
  beside a p q = ap (λ x. bit x (a % 32)) (others (a / 32) p q)

  replaced_by : Replaced ws j new after
  replaced_by =
      record {
        long = long;
        small = small;
        here = digits;
        before = λ a l. beside a (λ p. omega arith) (λ p. omega arith);
        behind = λ a l. beside a (λ p. omega arith) (λ p. omega arith);
      }

set_small : (ws : List ℕ) (i x : ℕ) → i < length ws → x < 2 ^ 32 → Small 32 ws → Small 32 (set ws i x)
set_small ws i x l h s k = ⊎_elim there other (equal_or k i)
  where
    there : k ≡ i → get_or (set ws i x) k 0 < 2 ^ 32
    there e = rw (e, get_or-set_same ws i x 0 l) h

    other : (k ≡ i → ⊥) → get_or (set ws i x) k 0 < 2 ^ 32
    other ne = rw (get_or-set_other ws i k x 0 ne) (s k)

module _ (ws : List ℕ) (j new : ℕ) (small : Small 32 ws) where
  abbrev one : List ℕ
  one = set ws (2 * j) (new % 2 ^ 32)

  abbrev two : List ℕ
  two = set one (2 * j + 1) (new / 2 ^ 32)

  one_small : 2 * j < length ws → Small 32 one
  one_small l = set_small ws (2 * j) (new % 2 ^ 32) l (mod-lt new (pow_pos 32)) small

  -- the last word
  pub replaced_one : 2 * j + 1 ≡ length ws → Replaced ws j new one
  replaced_one l =
      replaced_by ws j new one (length-set ws (2 * j) (new % 2 ^ 32)) (one_small (omega arith))
      (get_or-set_same ws (2 * j) (new % 2 ^ 32) 0 (omega arith)) (λ b. absurd (omega arith))
      (λ q x y. get_or-set_other ws (2 * j) q (new % 2 ^ 32) 0 x)

  pub replaced_two : 2 * j + 1 < length ws → new < 2 ^ 64 → Replaced ws j new two
  replaced_two l b =
      let e : length one ≡ length ws = length-set ws (2 * j) (new % 2 ^ 32) in
      let f : 2 * j + 1 < length one = rw e l in
      replaced_by ws j new two (length-set one (2 * j + 1) (new / 2 ^ 32) ∙ e) (set_small one (2 * j + 1) (new / 2 ^ 32) f (omega arith) (one_small (omega arith)))
      (get_or-set_other one (2 * j + 1) (2 * j) (new / 2 ^ 32) 0 (λ p. omega arith) ∙ get_or-set_same ws (2 * j) (new % 2 ^ 32) 0 (omega arith))
      (λ d. get_or-set_same one (2 * j + 1) (new / 2 ^ 32) 0 f)
      (λ q x y. get_or-set_other one (2 * j + 1) q (new / 2 ^ 32) 0 y ∙ get_or-set_other ws (2 * j) q (new % 2 ^ 32) 0 x)
