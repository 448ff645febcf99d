-- Laws of lists laid into one table.
-- Assumes nothing.
use Prim.Native.Nat.{ℕ, zero, suc, ◌+◌, ◌-◌, ◌<◌, ◌≤◌}
use Rattle.std.proofs.Common.{zero-add, add-one, ◌∙◌, length-drop, take-append-drop, ext_get_or, length-take-le, get_or-take, get_or-drop, leb-true, le-leb}
use native.Mathlib.Omega.{arith}
use Rattle.std.proofs.Math.Decide.{le_ind}
use Rattle.std.specs.Prelude.{◌≡◌, Bool, true, ◌&&◌, leb, get_or}
use Rattle.std.proofs.Math.Path.{ap, ap₂, sym}
use mathlib.Core.List.{List, [], ◌∷◌, ◌++◌, append-nil, append_assoc}
use Rattle.std.proofs.Math.ListN.{length, take, drop, length-append, get_or-append}
use Rattle.std.proofs.Math.Seq.{take-add, drop_at, take-append_seam}
use Rattle.base.specs.Tests.{both, both_left, both_right}
use Rattle.readers.specs.Joined.{joined, joined_agree, joined_last, joined-split, joined_first, single, length_singles, get_or-singles}
use Rattle.readers.specs.Laid.{start_of, laid, part, list_at, InOrder, in_order}

module _ (f : ℕ → List ℕ) (n : ℕ) where
  abbrev start : ℕ → ℕ
  start s = start_of f n s

  pub start_zero : start 0 ≡ n + 1
  unfolding start_of joined
  start_zero = omega arith

  pub start_more : (s : ℕ) → start (s + 1) ≡ start s + length (f s)
  unfolding start_of
  start_more s = omega (arith, ap length (joined_last f s), length-append (joined f 0 s) (f s))

  -- a list ends where the next begins, or before
  pub start_rises : (s r : ℕ) → s < r → start s + length (f s) ≤ start r
  start_rises s r l =
      le_ind (λ k. start s + length (f s) ≤ start k) (omega (arith, start_more s, add-one s, ap start (add-one s)))
      (λ m i h. omega (arith, start_more m, ap start (add-one m))) r l

  pub start_least : (s : ℕ) → n + 1 ≤ start s
  unfolding start_of
  start_least s = omega arith

  front_length : (s : ℕ) → length (joined (single start) 0 (n + 1) ++ joined f 0 s) ≡ start s
  unfolding start_of
  front_length s = omega (arith, length-append (joined (single (start_of f n)) 0 (n + 1)) (joined f 0 s), length_singles (start_of f n) 0 (n + 1))

  pub length-laid : length (laid f n) ≡ start n
  unfolding laid
  length-laid = front_length n

  pub start_at : (s : ℕ) → s ≤ n → get_or (laid f n) s 0 ≡ start s
  unfolding laid
  start_at s h =
      get_or-append (joined (single start) 0 (n + 1)) (joined f 0 n) 0 s (omega (arith, length_singles start 0 (n + 1)))
      ∙ get_or-singles start 0 (n + 1) s 0 (omega arith) ∙ ap start (zero-add s)

  -- a table with these starts, and each list in its place, is laid
  module _ (words : List ℕ) (room : start n ≤ length words) (starts : (s : ℕ) → s ≤ n → get_or words s 0 ≡ start s)
      (lists : (s j : ℕ) → s < n → j < length (f s) → get_or words (start s + j) 0 ≡ get_or (f s) j 0) where
    head_is : take (n + 1) words ≡ joined (single start) 0 (n + 1)
    head_is =
        let long : length (take (n + 1) words) ≡ n + 1 = length-take-le (n + 1) words (omega (arith, start_least n)) in
        ext_get_or 0 _ _ (long ∙ sym (length_singles start 0 (n + 1)))
        (λ i l.
        get_or-take (n + 1) words i 0 (omega arith) ∙ starts i (omega arith)
        ∙ sym (get_or-singles start 0 (n + 1) i 0 (omega arith) ∙ ap start (zero-add i)))

    part_is : (s : ℕ) → s < n → take (length (f s)) (drop (start s) words) ≡ f s
    part_is s l =
        let r : length (f s) ≤ length (drop (start s) words) = omega (arith, length-drop (start s) words, start_rises s n l) in
        let e : length (take (length (f s)) (drop (start s) words)) ≡ length (f s) = length-take-le _ _ r in
        ext_get_or 0 _ (f s) e
        (λ j i.
        let m : j < length (f s) = omega arith in
        get_or-take (length (f s)) (drop (start s) words) j 0 m ∙ get_or-drop (start s) words j 0 ∙ lists s j l m)

    front_is : (s : ℕ) → s ≤ n → take (start s) words ≡ joined (single start) 0 (n + 1) ++ joined f 0 s
    unfolding joined
    front_is zero h = ap (λ k. take k words) start_zero ∙ head_is ∙ sym (append-nil (joined (single start) 0 (n + 1)))
    front_is (suc s) h = go (front_is s (omega arith))
      where
        go : take (start s) words ≡ joined (single start) 0 (n + 1) ++ joined f 0 s → take (start (suc s)) words ≡ joined (single start) 0 (n + 1) ++ joined f 0 (suc s)
        go ih =
            ap (λ k. take k words) (ap start (sym (add-one s)) ∙ start_more s) ∙ take-add (start s) (length (f s)) words
            ∙ ap₂ ◌++◌ ih (part_is s (omega arith))
            ∙ append_assoc (joined (single start) 0 (n + 1)) (joined f 0 s) (f s)
            ∙ ap (λ r. joined (single start) 0 (n + 1) ++ r) (sym (ap (λ m. joined f 0 m) (sym (add-one s)) ∙ joined_last f s))

    pub laid_is : words ≡ laid f n ++ drop (start n) words
    unfolding laid
    laid_is = sym (take-append-drop (start n) words) ∙ ap (λ r. r ++ drop (start n) words) (front_is n (omega arith))

  -- list s of the table laid, whatever is behind it
  laid-split : (s : ℕ) (rest : List ℕ) → s < n → laid f n ++ rest ≡ (joined (single start) 0 (n + 1) ++ joined f 0 s) ++ (f s ++ (joined f (s + 1) (n - (s + 1)) ++ rest))
  unfolding laid
  laid-split s rest l =
      let e : n ≡ s + (n - s) = omega arith in
      let lists : joined f 0 n ≡ joined f 0 s ++ (f s ++ joined f (s + 1) (n - (s + 1))) =
      ap (joined f 0) e ∙ joined-split f 0 s (n - s) ∙ ap (λ k. joined f 0 s ++ joined f k (n - s)) (zero-add s) ∙ ap (λ r. joined f 0 s ++ r) (joined_first f s n l) in
      ap (λ r. (joined (single start) 0 (n + 1) ++ r) ++ rest) lists ∙ simp append_assoc

  module _ (words rest : List ℕ) (q : words ≡ laid f n ++ rest) where
    pub start_there : (s : ℕ) → s ≤ n → get_or words s 0 ≡ start s
    start_there s h =
        ap (λ xs. get_or xs s 0) q ∙ get_or-append (laid f n) rest 0 s (omega (arith, length-laid, start_least n)) ∙ start_at s h

    pub list_there : (s : ℕ) → s < n → list_at words s ≡ f s
    unfolding list_at
    list_there s l =
        rw (start_there s (omega arith), start_there (s + 1) (omega arith), size, q, laid-split s rest l, drop_at (joined (single start) 0 (n + 1) ++ joined f 0 s) (f s ++ (joined f (s + 1) (n - (s + 1)) ++ rest)) (start s) front)
        (take-append_seam (f s) (joined f (s + 1) (n - (s + 1)) ++ rest))
      where
        size : start (s + 1) - start s ≡ length (f s)
        size = omega (arith, start_more s)

        front : length (joined (single start) 0 (n + 1) ++ joined f 0 s) ≡ start s
        front = front_length s

    pub in_order_there : (s : ℕ) → s < n → InOrder words (start n) s
    in_order_there s l =
        record {
          rising = omega (arith, start_there s (omega arith), start_there (s + 1) (omega arith), start_more s);
          within = omega (arith, start_there (s + 1) (omega arith), start_rises s n l, start_more s);
        }

-- the test
pub in_order_true : (words : List ℕ) (listed s : ℕ) → in_order words listed s ≡ true → InOrder words listed s
unfolding in_order
in_order_true words listed s e =
    record {
      rising = leb-true _ _ (both_left (leb (get_or words s 0) (get_or words (s + 1) 0)) (leb (get_or words (s + 1) 0) listed) e);
      within = leb-true _ _ (both_right (leb (get_or words s 0) (get_or words (s + 1) 0)) (leb (get_or words (s + 1) 0) listed) e);
    }

pub true_in_order : (words : List ℕ) (listed s : ℕ) → InOrder words listed s → in_order words listed s ≡ true
unfolding in_order
true_in_order words listed s h = both (le-leb _ _ h.rising) (le-leb _ _ h.within)

-- the two starts at hand
module _ (words : List ℕ) (s start end : ℕ) (p : start ≡ get_or words s 0) (q : end ≡ get_or words (s + 1) 0) where
  pub order_read : (listed : ℕ) (r : Bool) → r ≡ (leb start end && leb end listed) → r ≡ in_order words listed s
  unfolding in_order
  order_read listed r e = rw (← p, ← q) e

  pub list_read : (xs : List ℕ) → xs ≡ part words start end → xs ≡ list_at words s
  unfolding list_at
  list_read xs e = rw (← p, ← q) e

-- what is within some words is within more
pub in_order_more : (words : List ℕ) (a b s : ℕ) → a ≤ b → InOrder words a s → InOrder words b s
in_order_more words a b s l h = record { rising = h.rising; within = omega (arith, h.within) }

-- lists that agree are laid alike
pub laid_agree : (f g : ℕ → List ℕ) (n : ℕ) → ((s : ℕ) → s < n → f s ≡ g s) → laid f n ≡ laid g n
unfolding laid start_of
laid_agree f g n h =
    ap₂ ◌++◌ (joined_agree (single (start_of f n)) (single (start_of g n)) 0 (n + 1) (λ k a b. ap (λ m. (n + 1 + length m) ∷ []) (below k (omega arith)))) (below n (omega arith))
  where
    below : (k : ℕ) → k ≤ n → joined f 0 k ≡ joined g 0 k
    below k l = joined_agree f g 0 k (λ s a b. h s (omega arith))
