-- How many atoms changed, word by word.
-- Assumes nothing.
use Prim.Native.Nat.{ℕ, zero, suc, ◌<◌, ◌≤◌, ◌+◌, ◌*◌}
use Rattle.std.proofs.Common.{add-one, arith, ◌∙◌, ⊎_elim}
use Rattle.std.specs.Prelude.{◌≡◌, Bool, true, false, List, length, get_or}
use Rattle.std.proofs.Math.Path.{refl, ap, ap₂, sym}
use Rattle.std.proofs.lemmas.List.{length-map}
use Rattle.base.specs.Tests.{below_or}
use Rattle.base.specs.Places.{places, count, count_agree, count_none, count_most}
use Rattle.words.specs.Bit.{bit}
use Rattle.words.specs.BitLaws.{bit_xor_lem}
use Rattle.words.specs.Changed.{unlike, changed}
use Rattle.words.specs.Sets.{member}
use Rattle.kept.specs.SetOf.{words32}
use Rattle.kept.specs.Tables.{Tables, atom_count}
use Rattle.kept.specs.Evaluation.{Evaluation, present}
use Rattle.kept.specs.Layout.{of_words, used, candidate_start}
use Rattle.kept.specs.LayoutLaws.{fits_of}
use Rattle.kept.specs.Check.{changes}
use Rattle.kept_laws.specs.Written.{get_candidate}
use Rattle.words.specs.Halves.{half}
use Rattle.kept_laws.specs.Halves.{difference, word-places, changes_next}

-- the changes of the first i words that begin at a place
unfoldable pub word_changes : ℕ → List ℕ → List ℕ → ℕ → ℕ
word_changes at kept new zero = 0
word_changes at kept new (suc i) = word_changes at kept new i + changed 32 (get_or kept (at + i) 0) (half new i)

-- one word more
pub word_more : (at : ℕ) (kept new : List ℕ) (i r : ℕ) → r ≡ changed 32 (get_or kept (at + i) 0) (half new i) → word_changes at kept new i + r ≡ word_changes at kept new (i + 1)
unfolding word_changes
word_more at kept new i r p = rw (add-one, p)

unlike_self : (b : Bool) → unlike b b ≡ false
unlike_self true = refl
unlike_self false = refl

-- a word that is the same has none
pub changed_same : (x y : ℕ) → x ≡ y → 0 ≡ changed 32 x y
unfolding changed
changed_same x y e = rw e (sym (count_none (λ k. unlike (bit y k) (bit y k)) 0 32 (λ k a b. unlike_self (bit y k))))

word-most : (x y r : ℕ) → r ≡ changed 32 x y → r ≤ 32
unfolding changed
word-most x y r p = rw p (count_most (λ k. unlike (bit x k) (bit y k)) 0 32)

words_most : (at : ℕ) (kept new : List ℕ) (i : ℕ) → word_changes at kept new i ≤ i * 32
unfolding word_changes
words_most at kept new zero = omega arith
words_most at kept new (suc i) = omega (arith, words_most at kept new i, word-most (get_or kept (at + i) 0) (half new i) _ refl)

-- ---- those from the first word on, summed

pub all_none : (at : ℕ) (kept new : List ℕ) → 0 ≡ word_changes at kept new (2 * 0)
unfolding word_changes
all_none at kept new = refl

module _ (at : ℕ) (kept new : List ℕ) (i n sum r : ℕ) (p : sum ≡ word_changes at kept new i) (q : word_changes at kept new i + r ≡ word_changes at kept new n) where
  pub all_more : sum + r ≡ word_changes at kept new n
  all_more = omega arith

  pub all_most : sum + r ≤ n * 32
  all_most = omega (arith, words_most at kept new n)

-- words that are the same add none
pub none_changed : (at : ℕ) (kept new : List ℕ) (i n : ℕ) → i ≤ n → ((k : ℕ) → i ≤ k → k < n → get_or kept (at + k) 0 ≡ half new k)
    → word_changes at kept new i ≡ word_changes at kept new n
unfolding word_changes
none_changed at kept new i zero l s = let e : i ≡ 0 = omega arith in rw e
none_changed at kept new i (suc n) l s = ⊎_elim
    (λ a. omega (arith, none_changed at kept new i n (omega arith) (λ k b c. s k b (omega arith)), changed_same (get_or kept (at + n) 0) (half new n) (s n (omega arith) (omega arith))))
    (λ a. let e : i ≡ suc n = omega arith in rw e)
    (below_or i (suc n))

-- those of a word are those of the atoms from its first place on
word_differs : (kept new : List ℕ) (i : ℕ) → count (λ a. unlike (member 32 kept a) (member 64 new a)) (i * 32) 32 ≡ changed 32 (get_or kept i 0) (half new i)
unfolding count changed
word_differs kept new i =
    ap length (word-places kept new i) ∙ length-map (places (bit (difference kept new i)) 0 32) (λ k. i * 32 + k)
    ∙ count_agree (bit (difference kept new i)) (λ k. unlike (bit (get_or kept i 0) k) (bit (half new i) k)) 0 32 (λ k a b. bit_xor_lem (get_or kept i 0) (half new i) k)

module _ (T : Tables) (ws new : List ℕ) (room : used T ≤ length ws) where
  abbrev e : Evaluation
  e = of_words T ws

  words_differ : (i : ℕ) → i ≤ words32 (atom_count T) → word_changes (candidate_start T) ws new i ≡ count (λ a. unlike (present e a) (member 64 new a)) 0 (i * 32)
  unfolding word_changes count places
  words_differ zero l = refl
  words_differ (suc i) l =
      ap₂ (λ x y. x + y) (words_differ i (omega arith)) (ap (λ x. changed 32 x (half new i)) (get_candidate T ws room i (omega arith)) ∙ sym (word_differs e.candidate new i))
      ∙ sym (changes_next (λ a. unlike (present e a) (member 64 new a)) i)

  pub words_changes : (sum i : ℕ) → sum ≡ word_changes (candidate_start T) ws new i → i ≡ words32 (atom_count T) → sum ≡ changes (member 64 new) e
  unfolding changes
  words_changes sum i p q =
      p ∙ words_differ i (omega arith) ∙ ap (λ n. count (λ a. unlike (present e a) (member 64 new a)) 0 (n * 32)) (q ∙ sym (fits_of T ws room).candidate)
