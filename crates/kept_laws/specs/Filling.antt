-- What the loops of a fresh check keep: a part of the words filled from its front, a set and its count, support producer by producer.
-- Assumes nothing.
use Rattle.std.specs.Prelude.{ℕ, zero, suc, ◌<◌, ◌≡◌, Bool, true, ◌&&◌, List, [], ◌∷◌, ◌++◌, eqb, get_or, set, drop, Some}
use Rattle.std.proofs.Common.{arith, ◌∙◌, append-nil, append_assoc, drop_of_length-le, drop-cons, eq-eqb, ne_eqb, lt-ltb, le-ltb}
use Rattle.std.proofs.Math.Path.{refl, ap, sym}
use Rattle.std.proofs.Math.Bool.{false, and-false}
use Rattle.std.proofs.Math.Dec.{ltb}
use Rattle.std.proofs.Math.ListN.{length, length-append}
use Rattle.std.proofs.lemmas.List.{set_at}
use Rattle.base.specs.Places.{places, places_none, count, count_none}
use Rattle.kept.specs.PlaceLaws.{last_yes, last_no}
use Rattle.kept.specs.Tabulate.{tabulate, updated, updated_is, length-tabulate, tabulate_agree, tabulate-set}
use Rattle.kept.specs.SetOf.{set_of, all_inserted}
use Rattle.kept.specs.SetOfLaws.{ltb-suc}
use Rattle.kept.specs.CountedSet.{counted_set, with_member}
use Rattle.kept.proofs.CountedSetLaws.{counted_agree, member-set}
use Rattle.kept.specs.Tables.{Tables, atom_count, head_at, body_at}
use Rattle.kept.specs.Evaluation.{no_members, body_true, supports, support}

-- ---- a part filled from its front

-- the first k of xs overwritten by f
unfoldable pub filled : {A : Type 0} → ℕ → (ℕ → A) → List A → List A
filled k f xs = tabulate k f ++ drop k xs

tabulate_last : {A : Type 0} (k : ℕ) (f : ℕ → A) → tabulate (suc k) f ≡ tabulate k f ++ (f k ∷ [])
unfolding tabulate
tabulate_last zero f = refl
tabulate_last (suc k) f = ap (λ l. f zero ∷ l) (tabulate_last k (λ i. f (suc i)))

pub filled_none : {A : Type 0} (f : ℕ → A) (xs : List A) → filled 0 f xs ≡ xs
unfolding filled tabulate
filled_none f xs = refl

pub filled_all : {A : Type 0} (n : ℕ) (f : ℕ → A) (xs : List A) → length xs ≡ n → filled n f xs ≡ tabulate n f
unfolding filled
filled_all n f xs e = ap (λ l. tabulate n f ++ l) (drop_of_length-le xs {i = n} (omega arith)) ∙ append-nil (tabulate n f)

pub filled_next : {A : Type 0} (k : ℕ) (f : ℕ → A) (xs : List A) → k < length xs → set (filled k f xs) k (f k) ≡ filled (suc k) f xs
unfolding filled
filled_next k f xs l =
    ap (λ ys. set (tabulate k f ++ ys) k (f k)) (drop-cons xs k (f k) l)
    ∙ set_at (tabulate k f) (get_or xs k (f k)) (drop (suc k) xs) (f k) k (length-tabulate k f)
    ∙ sym (ap (λ ys. ys ++ drop (suc k) xs) (tabulate_last k f) ∙ append_assoc (tabulate k f) (f k ∷ []) (drop (suc k) xs))

-- ---- a set gathered rising: its members below k

module _ (f : ℕ → Bool) where
  unfoldable pub up_to : ℕ → ℕ → Bool
  up_to k j = ltb j k && f j

  up_to-here : (k : ℕ) → f k ≡ up_to (suc k) k
  unfolding up_to
  up_to-here k = sym (rw (lt-ltb k (suc k) (omega arith)))

  up_to-other : (k j : ℕ) → (j ≡ k → ⊥) → up_to k j ≡ up_to (suc k) j
  unfolding up_to
  up_to-other k j h = ap (λ b. b && f j) (ltb-suc k j (λ z. h (sym z)))

  -- none yet: all words 0
  pub gathered_none : (n : ℕ) → counted_set (up_to 0) n ≡ no_members n
  unfolding counted_set set_of all_inserted up_to
  gathered_none n =
      rw (places_none (up_to 0) 0 n (λ j a b. none j), count_none (up_to 0) 0 n (λ j a b. none j))
    where
      none : (j : ℕ) → ltb j 0 && f j ≡ false
      none j = rw (le-ltb j 0 (omega arith))

  pub gathered_next : (n k : ℕ) → k < n → with_member n (counted_set (up_to k) n) k (f k) ≡ Some (counted_set (up_to (suc k)) n)
  gathered_next n k l =
      member-set (up_to k) n k (f k) l
      ∙ ap Some (counted_agree (updated (up_to k) k (f k)) (up_to (suc k)) n (λ j i. updated_is (up_to k) (up_to (suc k)) k (f k) (up_to-here k) (up_to-other k) j))

  pub gathered_all : (n : ℕ) → counted_set (up_to n) n ≡ counted_set f n
  unfolding up_to
  gathered_all n = counted_agree (up_to n) f n (λ j i. rw (lt-ltb j n i))

-- ---- support, by the producers below p

unfoldable pub support_to : Tables → (ℕ → Bool) → ℕ → ℕ → ℕ
support_to T v p a = count (supports T v a) 0 p

module _ (T : Tables) (v : ℕ → Bool) where
  pub support_none : tabulate (atom_count T) (support_to T v 0) ≡ tabulate (atom_count T) (λ a. 0)
  unfolding support_to
  support_none = tabulate_agree (atom_count T) (support_to T v 0) (λ a. 0) (λ a l. count_none (supports T v a) 0 0 (λ j x y. absurd (omega arith)))

  pub support_all : tabulate (atom_count T) (support_to T v T.made) ≡ tabulate (atom_count T) (support T v)
  unfolding support_to support
  support_all = refl

  counted-yes : (p a : ℕ) → supports T v a p ≡ true → support_to T v (suc p) a ≡ suc (support_to T v p a)
  unfolding support_to count
  counted-yes p a e = ap length (last_yes (supports T v a) p e) ∙ length-append (places (supports T v a) 0 p) (p ∷ []) ∙ (omega arith)

  counted_no : (p a : ℕ) → supports T v a p ≡ false → support_to T v (suc p) a ≡ support_to T v p a
  unfolding support_to count
  counted_no p a e = ap length (last_no (supports T v a) p e)

  -- a producer that counts, and one that does not
  pub support_next : (p : ℕ) → body_true v (body_at T p) ≡ true
      → set (tabulate (atom_count T) (support_to T v p)) (head_at T p) (suc (support_to T v p (head_at T p))) ≡ tabulate (atom_count T) (support_to T v (suc p))
  unfolding supports
  support_next p e =
      tabulate-set (atom_count T) (support_to T v p) (head_at T p) (suc (support_to T v p (head_at T p)))
      ∙ tabulate_agree (atom_count T) (updated (support_to T v p) (head_at T p) (suc (support_to T v p (head_at T p)))) (support_to T v (suc p))
      (λ a i. updated_is (support_to T v p) (support_to T v (suc p)) (head_at T p) (suc (support_to T v p (head_at T p)))
      (sym (counted-yes p (head_at T p) (rw (eq-eqb (head_at T p) (head_at T p) refl) e)))
      (λ j h. sym (counted_no p j (rw (ne_eqb (head_at T p) j (λ z. h (sym z)))))) a)

  pub support_skip : (p : ℕ) → body_true v (body_at T p) ≡ false → tabulate (atom_count T) (support_to T v p) ≡ tabulate (atom_count T) (support_to T v (suc p))
  unfolding supports
  support_skip p e =
      tabulate_agree (atom_count T) (support_to T v p) (support_to T v (suc p))
      (λ a i. sym (counted_no p a (rw e (and-false (eqb (head_at T p) a)))))
