-- Words of a set given by a test: its members, and that no other words hold them.
-- Assumes nothing.
use Prim.Native.Nat.{ℕ, zero, suc, ◌+◌, ◌-◌, ◌*◌, ◌/◌, ◌%◌, ◌^◌, ◌<◌, ◌≤◌}
use Rattle.std.proofs.Common.{pow-suc, arith, ap, ◌∙◌, ⊎_elim, true≢false, pow_pos, ext_get_or, eqb-true, eq-eqb, ne_eqb, lt-ltb, le-ltb}
use Rattle.std.proofs.Math.Nat.{zero-add}
use Rattle.std.proofs.Math.Numerals.{add-one}
use Rattle.std.specs.Prelude.{◌≡◌, Bool, true, false, ◌&&◌, ◌||◌, eqb, ltb, get_or, replicate}
use Rattle.std.proofs.Math.Path.{refl, sym}
use Rattle.std.proofs.Math.Bool.{and-false}
use mathlib.Core.List.{List, [], ◌∷◌, ◌++◌}
use Rattle.std.proofs.Math.Arith.{digits_div, digits_mod, digits_lt}
use Rattle.std.proofs.Math.ListN.{length, get_or-eq_default}
use Rattle.std.proofs.lemmas.List.{length-replicate, get_or-replicate}
use Rattle.std.proofs.lemmas.Bool.{eqb-false}
use Rattle.base.specs.Tests.{equal_or, below_or}
use Rattle.base.specs.Places.{places, places-yes, places_no, places-split, places_agree, lowest-only}
use Rattle.words.specs.Bit.{bit}
use Rattle.words.specs.BitLaws.{bit_shift}
use Rattle.words.specs.Sets.{member, inserted, removed}
use Rattle.words.specs.SetLaws.{member-inserted, member-removed, member-zeros, length_inserted, length_removed, inserted_small, removed_small}
use Rattle.words.specs.Next.{next}
use Rattle.kept.specs.Tabulate.{updated, updated_here, updated_there}
use Rattle.kept.specs.SetOf.{words32, all_inserted, set_of}

-- every word is a number of w digits
abbrev pub Small : ℕ → List ℕ → Type 0
Small w ws = (k : ℕ) → get_or ws k 0 < 2 ^ w

-- ---- words with the same members are equal

digit_same : (x y : ℕ) → bit x 0 ≡ bit y 0 → x % 2 ≡ y % 2
unfolding bit
digit_same x y e = go (eqb (x / 1 % 2) 1) refl (eqb (y / 1 % 2) 1) refl
  where
    go : (b : Bool) → eqb (x / 1 % 2) 1 ≡ b → (c : Bool) → eqb (y / 1 % 2) 1 ≡ c → x % 2 ≡ y % 2
    go true p true q = omega (arith, eqb-true (x / 1 % 2) 1 p, eqb-true (y / 1 % 2) 1 q)
    go true p false q = absurd (true≢false (sym p ∙ e ∙ q))
    go false p true q = absurd (true≢false (sym q ∙ sym e ∙ p))
    go false p false q = omega (arith, eqb-false (x / 1 % 2) 1 p, eqb-false (y / 1 % 2) 1 q)

same_digits : (w x y : ℕ) → x < 2 ^ w → y < 2 ^ w → ((j : ℕ) → j < w → bit x j ≡ bit y j) → x ≡ y
same_digits zero x y l m h = omega arith
same_digits (suc w) x y l m h =
    let a : x < 2 ^ w * 2 = rw (pow-suc 2 w) at l in
    let b : y < 2 ^ w * 2 = rw (pow-suc 2 w) at m in
    let halves : x / 2 ≡ y / 2 = same_digits w (x / 2) (y / 2) (omega arith) (omega arith) tail in
    omega (arith, digit_same x y (h zero (omega arith)))
  where
    tail : (j : ℕ) → j < w → bit (x / 2) j ≡ bit (y / 2) j
    tail j i =
        let e : 1 + j ≡ suc j = omega arith in
        bit_shift x 1 j ∙ ap (bit x) e ∙ h (suc j) (omega arith) ∙ ap (bit y) (sym e) ∙ sym (bit_shift y 1 j)

pub same_words : (w : ℕ) (xs ys : List ℕ) → length xs ≡ length ys → Small w xs → Small w ys → ((i : ℕ) → i < length xs * w → member w xs i ≡ member w ys i) → xs ≡ ys
unfolding member
same_words w xs ys e sx sy h = ext_get_or 0 xs ys e (λ q l. same_digits w (get_or xs q 0) (get_or ys q 0) (sx q) (sy q) (λ j m. at q l j m))
  where
    at : (q : ℕ) → q < length xs → (j : ℕ) → j < w → bit (get_or xs q 0) j ≡ bit (get_or ys q 0) j
    at q l j m = rw (digits_div q m, digits_mod q m) at (h (q * w + j) (digits_lt l m))

-- ---- the members of a set given by a test

append-inserted : (ws is js : List ℕ) → all_inserted ws (is ++ js) ≡ all_inserted (all_inserted ws is) js
unfolding all_inserted
append-inserted ws [] js = refl
append-inserted ws (i ∷ is) js = append-inserted (inserted 32 ws i) is js

length_all : (ws is : List ℕ) → length (all_inserted ws is) ≡ length ws
unfolding all_inserted
length_all ws [] = refl
length_all ws (i ∷ is) = length_all (inserted 32 ws i) is ∙ length_inserted 32 ws i

small_all : (ws is : List ℕ) → Small 32 ws → Small 32 (all_inserted ws is)
unfolding all_inserted
small_all ws [] s = s
small_all ws (i ∷ is) s = small_all (inserted 32 ws i) is (inserted_small 32 ws i (omega arith) s)

-- the place n comes next
pub ltb-suc : (n j : ℕ) → (n ≡ j → ⊥) → ltb j n ≡ ltb j (suc n)
ltb-suc n j p = ⊎_elim below past (below_or j n)
  where
    below : j < n → ltb j n ≡ ltb j (suc n)
    below l = rw (lt-ltb j n l, lt-ltb j (suc n) (omega arith))

    past : n ≤ j → ltb j n ≡ ltb j (suc n)
    past l = rw (le-ltb j n l, le-ltb j (suc n) (omega (arith, p)))

below_next : (f : ℕ → Bool) (n j : ℕ) → f n ≡ true → (eqb n j || ltb j n && f j) ≡ ltb j (suc n) && f j
below_next f n j e = ⊎_elim
    (λ p. rw (← p, eq-eqb n n refl, lt-ltb n (suc n) (omega arith), e))
    (λ p. rw (ne_eqb n j p) (ap (λ b. b && f j) (ltb-suc n j p)))
    (equal_or n j)

below_past : (f : ℕ → Bool) (n j : ℕ) → f n ≡ false → ltb j n && f j ≡ ltb j (suc n) && f j
below_past f n j e = ⊎_elim
    (λ p. rw (← p, e) (and-false (ltb n n) ∙ sym (and-false (ltb n (suc n)))))
    (λ p. ap (λ b. b && f j) (ltb-suc n j p))
    (equal_or n j)

module _ (f : ℕ → Bool) (ws : List ℕ) (none : (j : ℕ) → member 32 ws j ≡ false) where
  members_all : (n : ℕ) → n ≤ length ws * 32 → (j : ℕ) → member 32 (all_inserted ws (places f 0 n)) j ≡ ltb j n && f j
  unfolding places all_inserted
  members_all zero l j = none j ∙ rw (le-ltb j 0 (omega arith))
  members_all (suc n) l j = rw (← add-one n, places-split f 0 n 1, append-inserted ws (places f 0 n) (places f (0 + n) 1), zero-add n) (go (f n) refl (members_all n (omega arith) j))
    where
      old : List ℕ
      old = all_inserted ws (places f 0 n)

      here : n / 32 < length old
      here = rw (length_all ws (places f 0 n)) (omega arith)

      go : (b : Bool) → f n ≡ b → member 32 old j ≡ ltb j n && f j → member 32 (all_inserted old (places f n 1)) j ≡ ltb j (n + 1) && f j
      go true e ih = rw (places-yes f n 0 e, member-inserted 32 old n j here, ih, add-one n) (below_next f n j e)
      go false e ih = rw (places_no f n 0 e, add-one n) (ih ∙ below_past f n j e)

pub length-set_of : (f : ℕ → Bool) (n : ℕ) → length (set_of f n) ≡ words32 n
unfolding set_of
length-set_of f n = length_all (replicate (words32 n) 0) (places f 0 n) ∙ length-replicate {A = ℕ} (words32 n) 0

zeros_small : (w n : ℕ) → Small w (replicate n 0)
zeros_small w n k = ⊎_elim (λ l. rw (get_or-replicate {A = ℕ} n k 0 0 l) (pow_pos w)) past (below_or k n)
  where
    past : n ≤ k → ◌<◌ (get_or (replicate n 0) k 0) (2 ^ w)
    past l = rw (get_or-eq_default {A = ℕ} (replicate n 0) 0 {n = k} (omega (arith, length-replicate {A = ℕ} n 0))) (pow_pos w)

pub small-set_of : (f : ℕ → Bool) (n : ℕ) → Small 32 (set_of f n)
unfolding set_of
small-set_of f n = small_all (replicate (words32 n) 0) (places f 0 n) (zeros_small 32 (words32 n))

pub member-set_of : (f : ℕ → Bool) (n j : ℕ) → member 32 (set_of f n) j ≡ ltb j n && f j
unfolding set_of
member-set_of f n j =
    members_all f (replicate (words32 n) 0) (member-zeros 32 (words32 n)) n (rw (length-replicate {A = ℕ} (words32 n) 0) (omega arith)) j

pub member_below : (f : ℕ → Bool) (n j : ℕ) → j < n → member 32 (set_of f n) j ≡ f j
member_below f n j l = member-set_of f n j ∙ rw (lt-ltb j n l)

pub member_above : (f : ℕ → Bool) (n j : ℕ) → n ≤ j → member 32 (set_of f n) j ≡ false
member_above f n j l = member-set_of f n j ∙ rw (le-ltb j n l)

-- no other words have these members
pub set_of-is : (f : ℕ → Bool) (n : ℕ) (ws : List ℕ) → length ws ≡ words32 n → Small 32 ws → ((j : ℕ) → j < words32 n * 32 → member 32 ws j ≡ ltb j n && f j) → ws ≡ set_of f n
set_of-is f n ws e s h =
    same_words 32 ws (set_of f n) (e ∙ sym (length-set_of f n)) s (small-set_of f n) (λ j l. h j (rw e at l) ∙ sym (member-set_of f n j))

pub set_of-agree : (f g : ℕ → Bool) (n : ℕ) → ((j : ℕ) → j < n → f j ≡ g j) → set_of f n ≡ set_of g n
unfolding set_of
set_of-agree f g n h = ap (all_inserted (replicate (words32 n) 0)) (places_agree f g 0 n (λ k a b. h k (omega arith)))

-- ---- one member more or less

module _ (f : ℕ → Bool) (n i : ℕ) (l : i < n) where
  word_in : i / 32 < length (set_of f n)
  word_in = rw (length-set_of f n) (omega arith)

  pub set_of-inserted : inserted 32 (set_of f n) i ≡ set_of (updated f i true) n
  set_of-inserted =
      set_of-is (updated f i true) n (inserted 32 (set_of f n) i) (length_inserted 32 (set_of f n) i ∙ length-set_of f n) (inserted_small 32 (set_of f n) i (omega arith) (small-set_of f n))
      (λ j m. member-inserted 32 (set_of f n) i j word_in ∙ rw (member-set_of f n j) (⊎_elim
      (λ p. rw (← p, eq-eqb i i refl, lt-ltb i n l, updated_here f i true))
      (λ p. rw (ne_eqb i j p, updated_there f i true j (λ q. p (sym q))))
      (equal_or i j)))

  pub set_of-removed : removed 32 (set_of f n) i ≡ set_of (updated f i false) n
  set_of-removed =
      set_of-is (updated f i false) n (removed 32 (set_of f n) i) (length_removed 32 (set_of f n) i ∙ length-set_of f n) (removed_small 32 (set_of f n) i (omega arith) (small-set_of f n))
      (λ j m. member-removed 32 (set_of f n) i j word_in ∙ rw (member-set_of f n j) (⊎_elim
      (λ p. rw (← p, eq-eqb i i refl, lt-ltb i n l, updated_here f i false))
      (λ p. rw (ne_eqb i j p, updated_there f i false j (λ q. p (sym q))))
      (equal_or i j)))

-- ---- the lowest member

module _ (f : ℕ → Bool) (n : ℕ) where
  places_in : n ≤ 32 * length (set_of f n)
  places_in = rw (length-set_of f n) (omega arith)

  pub next_found : (i k : ℕ) → i ≤ k → k < n → f k ≡ true → ((j : ℕ) → j < k → f j ≡ false) → next 32 (set_of f n) i ≡ k
  unfolding next
  next_found i k m l e h = sym (lowest-only (member 32 (set_of f n)) i (32 * length (set_of f n) - i) k (record {
    from = m;
    within = omega (arith, places_in);
    before = λ j a b. member_below f n j (omega arith) ∙ h j b;
    here = λ b. member_below f n k l ∙ e;
  }))
