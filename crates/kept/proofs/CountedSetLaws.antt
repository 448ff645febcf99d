-- Laws of a set with its count: of one given by a test, and of any.
-- Assumes nothing.
use Rattle.std.specs.Prelude.{ℕ, suc, ◌+◌, ◌-◌, ◌<◌, ◌≤◌, ◌≡◌, refl, Bool, true, false, not, cond, Some}
use Rattle.std.proofs.Math.Nat.{zero-add}
use native.Mathlib.Omega.{arith}
use Rattle.std.proofs.Common.{ap, sym, ◌∙◌}
use Rattle.std.proofs.Math.Path.{fun_ext}
use Rattle.std.proofs.Math.Bool.{true≢false}
use borrow.Author.Tests.{ne_eqb, lt-ltb}
use Rattle.base.specs.Places.{places-yes, places_no, count, count-split, count_agree, count_none, count_most}
use Rattle.words.specs.Changed.{unlike}
use Rattle.kept.specs.Tabulate.{updated, updated_here, updated_there, updated_same}
use Rattle.kept.specs.SetOf.{set_of}
use Rattle.kept.specs.SetOfLaws.{member_below, set_of-agree, set_of-inserted, set_of-removed, next_found}
use Rattle.kept.specs.CountedSet.{and_then, counted_set, moved, with_bit, with_member, empty, at, lookup}

-- ---- what differs

pub unlike_false : (a b : Bool) → unlike a b ≡ false → a ≡ b
unlike_false true true e = refl
unlike_false true false e = cc
unlike_false false true e = cc
unlike_false false false e = refl

pub unlike_true : (a b : Bool) → unlike a b ≡ true → a ≡ not b
unlike_true true true e = cc
unlike_true true false e = refl
unlike_true false true e = refl
unlike_true false false e = cc

pub unlike_same : (a b : Bool) → a ≡ b → unlike a b ≡ false
unlike_same true true e = refl
unlike_same true false e = cc
unlike_same false true e = cc
unlike_same false false e = refl

-- ---- counts

-- one place more
module _ (f g : ℕ → Bool) (n i : ℕ) (l : i < n) (same : (j : ℕ) → (j ≡ i → ⊥) → f j ≡ g j) (was : f i ≡ false) (is : g i ≡ true) where
  rest : ℕ
  rest = n - i - 1

  range : n ≡ i + suc rest
  unfolding rest
  range = omega arith

  pub count_more : count g 0 n ≡ suc (count f 0 n)
  unfolding count
  count_more =
      rw (range, count-split g 0 i (suc rest), count-split f 0 i (suc rest), zero-add i, places-yes g i rest is, places_no f i rest was)
      (omega (arith, count_agree f g 0 i (λ j a b. same j (λ e. omega arith)), count_agree f g (i + 1) rest (λ j a b. same j (λ e. omega arith))))

pub count-zero : (f : ℕ → Bool) (n : ℕ) → count f 0 n ≡ 0 → (k : ℕ) → k < n → f k ≡ false
count-zero f n e k l = go (f k) refl
  where
    go : (b : Bool) → f k ≡ b → f k ≡ false
    go false p = p
    go true p =
        let m : count f 0 n ≡ suc (count (updated f k false) 0 n) =
        count_more (updated f k false) f n k l (λ j h. updated_there f k false j h) (updated_here f k false) p in
        absurd (omega arith)

-- ---- a set given by a test

pub counted_agree : (f g : ℕ → Bool) (n : ℕ) → ((i : ℕ) → i < n → f i ≡ g i) → counted_set f n ≡ counted_set g n
unfolding counted_set
counted_agree f g n h = λ i. record { members = set_of-agree f g n h i; size = count_agree f g 0 n (λ k a b. h k (omega arith)) i }

pub bit-set : (f : ℕ → Bool) (n i : ℕ) (x : Bool) → i < n → with_bit (set_of f n) i x ≡ set_of (updated f i x) n
unfolding with_bit
bit-set f n i true l = set_of-inserted f n i l
bit-set f n i false l = set_of-removed f n i l

count-moved : (f : ℕ → Bool) (n i : ℕ) (x : Bool) → i < n → f i ≡ not x → moved n x (count f 0 n) ≡ Some (count (updated f i x) 0 n)
unfolding moved
count-moved f n i true l e =
    let more : count (updated f i true) 0 n ≡ suc (count f 0 n) =
    count_more f (updated f i true) n i l (λ j h. sym (updated_there f i true j h)) e (updated_here f i true) in
    rw (lt-ltb (count f 0 n) n (omega (arith, count_most (updated f i true) 0 n))) (ap Some (sym more))
count-moved f n i false l e =
    let more : count f 0 n ≡ suc (count (updated f i false) 0 n) =
    count_more (updated f i false) f n i l (λ j h. updated_there f i false j h) (updated_here f i false) e in
    rw (more, moved)

pub member-set : (f : ℕ → Bool) (n i : ℕ) (x : Bool) → i < n → with_member n (counted_set f n) i x ≡ Some (counted_set (updated f i x) n)
unfolding with_member counted_set
member-set f n i x l = rw (member_below f n i l) (go (unlike (f i) x) refl)
  where
    go : (b : Bool) → unlike (f i) x ≡ b
        → cond b (and_then (moved n x (count f 0 n)) (λ m. Some (record { members = with_bit (set_of f n) i x; size = m }))) (Some (counted_set f n)) ≡ Some (counted_set (updated f i x) n)
    go true e = rw (count-moved f n i x l (unlike_true (f i) x e), bit-set f n i x l)
    go false e = ap (λ g. Some (counted_set g n)) (sym (fun_ext (updated_same f i x (unlike_false (f i) x e))))

module _ (f : ℕ → Bool) (n : ℕ) where
  pub lookup_at : (i k : ℕ) → i ≤ k → k < n → f k ≡ true → ((j : ℕ) → j < k → f j ≡ false) → lookup n i (counted_set f n) ≡ at k
  unfolding lookup counted_set
  lookup_at i k m l e h = rw (ne_eqb (count f 0 n) 0 (λ z. true≢false (sym e ∙ count-zero f n z k l)), next_found f n i k m l e h, lt-ltb k n l)

  pub lookup_empty : (i : ℕ) → ((j : ℕ) → j < n → f j ≡ false) → lookup n i (counted_set f n) ≡ empty
  unfolding lookup counted_set
  lookup_empty i h = rw (count_none f 0 n (λ j a b. h j (omega arith)))
