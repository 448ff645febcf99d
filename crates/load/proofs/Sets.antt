-- The words of a candidate: a set in the front of a buffer.
-- Assumes nothing.
use Prim.Native.Nat.{ℕ, ◌+◌, ◌/◌, ◌<◌, ◌≤◌}
use native.Mathlib.Omega.{arith}
use native.Mathlib.Nat.{div-add-mod', mod-lt, min-eq_left}
use mathlib.Core.Path.{◌≡◌, refl, ◌∙◌}
use mathlib.Core.Bool.{Bool, true, false, ◌||◌}
use mathlib.Core.List.{List, [], ◌∷◌, ◌++◌}
use lib.ListN.{length, take, drop, replicate, length-replicate, length-append, length-take, length-drop, get_or-append}
use Rattle.std.specs.Int.{div_ceil}
use lib.Seq.{set-append_left}
use lib.Dec.{eqb}
use Rattle.base.specs.Tests.{or-false}
use Rattle.base.specs.Each.{Each, each_map}
use Rattle.theory.specs.Admission.{all_below}
use Rattle.theory.specs.Spans.{all_below_each}
use Rattle.words.specs.Sets.{member, inserted}
use Rattle.words.specs.SetLaws.{length_inserted, member-inserted, member-zeros}
use Rattle.file_reader.specs.Insert.{inserted_all}
use Rattle.load.specs.Candidate.{word_count, candidate_words, among}

pub word_below : (a atoms : ℕ) → a < atoms → a / 64 < word_count atoms
word_below a atoms h = omega (arith, div-add-mod' a 64, div-add-mod' (atoms + 63) 64, mod-lt (atoms + 63) {m = 64} (omega arith))

pub words_below : (atoms n : ℕ) (vs : List ℕ) → all_below atoms vs ≡ true → word_count atoms ≤ n → Each (λ a. a / 64 < n) vs
words_below atoms n vs e h = each_map (λ a. a < atoms) (λ a. a / 64 < n) vs (λ a l. omega (arith, word_below a atoms l)) (all_below_each atoms vs e)

inserted-front : (xs ys : List ℕ) (a : ℕ) → a / 64 < length xs → inserted 64 (xs ++ ys) a ≡ inserted 64 xs a ++ ys
unfolding inserted
inserted-front xs ys a h = rw (get_or-append xs ys 0 (a / 64) h) (set-append_left xs ys (a / 64) _ h)

inserted_all-front : (xs ys vs : List ℕ) → Each (λ a. a / 64 < length xs) vs → inserted_all (xs ++ ys) vs ≡ inserted_all xs vs ++ ys
unfolding inserted_all
inserted_all-front xs ys [] h = refl
inserted_all-front xs ys (a ∷ vs) h =
    rw (inserted-front xs ys a h.0)
    (inserted_all-front (inserted 64 xs a) ys vs
    (each_map (λ b. b / 64 < length xs) (λ b. b / 64 < length (inserted 64 xs a)) vs (λ b l. rw (length_inserted 64 xs a) l) h.1))

-- the front of a buffer, cleared
module _ (atoms n : ℕ) (ws zeros : List ℕ) (so_many : n ≡ div_ceil atoms 64) (room : word_count atoms ≤ length ws) (filled : zeros ≡ replicate (length (take n ws)) 0) where
  words_taken : n ≡ word_count atoms
  words_taken =
      omega (arith, so_many, div-add-mod' atoms 64, mod-lt atoms {m = 64} (omega arith), div-add-mod' (atoms + 63) 64, mod-lt (atoms + 63) {m = 64} (omega arith))

  pub cleared-front : zeros ++ drop n ws ≡ replicate (word_count atoms) 0 ++ drop (word_count atoms) ws
  cleared-front = rw (filled, length-take, words_taken, min-eq_left room)

  pub length-cleared : length (zeros ++ drop n ws) ≡ length ws
  length-cleared = rw (length-append, length-drop, filled, length-replicate, length-take, words_taken) (omega arith)

-- a cleared front with the atoms put in
pub candidate-front : (atoms : ℕ) (vs ws cleared filled : List ℕ) → all_below atoms vs ≡ true → cleared ≡ replicate (word_count atoms) 0 ++ drop (word_count atoms) ws
    → filled ≡ inserted_all cleared vs → filled ≡ candidate_words atoms vs ++ drop (word_count atoms) ws
unfolding candidate_words
candidate-front atoms vs ws cleared filled e p q =
    q ∙ rw p
    (inserted_all-front (replicate (word_count atoms) 0) (drop (word_count atoms) ws) vs
    (words_below atoms (length (replicate {A = ℕ} (word_count atoms) 0)) vs e (omega (arith, length-replicate {A = ℕ} (word_count atoms) 0))))

pub ruleset candidate_laws = (words_below, cleared-front, length-cleared, candidate-front)

-- ---- the members of a candidate's words are its atoms

regrouped : (a b c : Bool) → (a || (b || c)) ≡ ((b || a) || c)
regrouped true true c = refl
regrouped true false c = refl
regrouped false true c = refl
regrouped false false c = refl

member-inserted_all : (ws vs : List ℕ) (a : ℕ) → Each (λ b. b / 64 < length ws) vs → member 64 (inserted_all ws vs) a ≡ (among a vs || member 64 ws a)
unfolding inserted_all among
member-inserted_all ws [] a h = refl
member-inserted_all ws (b ∷ vs) a h =
    member-inserted_all (inserted 64 ws b) vs a
    (each_map (λ x. x / 64 < length ws) (λ x. x / 64 < length (inserted 64 ws b)) vs (λ x l. rw (length_inserted 64 ws b) l) h.1)
    ∙ rw (member-inserted 64 ws b a h.0) (regrouped (among a vs) (eqb b a) (member 64 ws a))

pub candidate_members : (atoms : ℕ) (vs : List ℕ) (a : ℕ) → all_below atoms vs ≡ true → member 64 (candidate_words atoms vs) a ≡ among a vs
unfolding candidate_words
candidate_members atoms vs a e =
    member-inserted_all (replicate (word_count atoms) 0) vs a
    (words_below atoms (length (replicate {A = ℕ} (word_count atoms) 0)) vs e (omega (arith, length-replicate {A = ℕ} (word_count atoms) 0)))
    ∙ rw (member-zeros 64 (word_count atoms) a) (or-false (among a vs))
