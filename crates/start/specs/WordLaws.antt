-- The atoms of one word moved, lowest first.
-- Assumes nothing.
use Rattle.std.specs.Prelude.{ℕ, ◌<◌, ◌≤◌, ◌+◌, ◌-◌, ◌*◌, ◌/◌, ◌%◌, ◌^◌, ◌≡◌, Bool, List, [], ◌∷◌, map, eqb, length, get_or, Option, Some}
use Rattle.std.proofs.Math.Path.{refl}
use Rattle.std.proofs.Common.{ap, ◌∙◌}
use Rattle.std.specs.Int.Bits.{bit_and}
use Rattle.base.specs.Places.{places}
use Rattle.formula.specs.Satisfaction.{Interpretation}
use Rattle.words.specs.Bit.{bit}
use Rattle.words.specs.PlaceLaws.{place_none, place_off}
use Rattle.kept.specs.CountedSet.{and_then}
use Rattle.kept.specs.Tables.{Tables}
use Rattle.kept.specs.Evaluation.{Evaluation}
use Rattle.kept.specs.Layout.{of_words, used}
use Rattle.kept_laws.specs.StartChanged.{all_turned}
use Rattle.kept_laws.specs.Wrote.{Wrote, wrote_done, wrote_out_of_range, Changing, done, out_of_range}
use Rattle.start.specs.Moved.{atom_moved, all_moved}
use Rattle.start.specs.MovedLaws.{moved_fits}
use Rattle.start.specs.Onward.{Onward, onward_first, onward_fits, onward_stray, onward_done, onward_more}

-- of word i, of width w, those at the set places of x
abbrev pub word_atoms : ℕ → ℕ → ℕ → List ℕ
word_atoms w i x = map (λ k. i * w + k) (places (bit x) 0 w)

-- the place as the code reads it in the new word
pub place_read : (new t : ℕ) (b : Bool) → b ≡ bit new t → b ≡ eqb (new / 2 ^ t % 2) 1
unfolding bit
place_read new t b e = e

module _ (T : Tables) (J : Interpretation) where
  pub turned_none : (e : Evaluation) → all_turned T J [] e ≡ Some e
  unfolding all_turned
  turned_none e = refl

  moved_none : (e : Evaluation) → all_moved T J [] e ≡ Some e
  unfolding all_moved
  moved_none e = refl

  moved_more : (a : ℕ) (rest : List ℕ) (e : Evaluation) → all_moved T J (a ∷ rest) e ≡ and_then (atom_moved T J a e) (all_moved T J rest)
  unfolding all_moved
  moved_more a rest e = refl

  module _ (w : ℕ) (ws : List ℕ) (i all : ℕ) where
    abbrev whole : Option Evaluation
    whole = all_moved T J (word_atoms w i all) (of_words T ws)

    -- of the places of `all`, those of x are left
    abbrev pub Turning : List ℕ → ℕ → Type 0
    Turning mid x = Onward T ws whole mid (all_moved T J (word_atoms w i x) (of_words T mid))

    module _ (room : used T ≤ length ws) where
      pub turning_first : Turning ws all
      turning_first = onward_first T ws whole room whole refl

      -- k is the first of them
      module _ (mid : List ℕ) (x : ℕ) (o : Turning mid x) (k : ℕ) (is : k ≡ get_or (places (bit x) 0 w) 0 w) where
        abbrev rest : Option Evaluation
        rest = all_moved T J (word_atoms w i x) (of_words T mid)

        pub turning_done : k ≡ w → Wrote T ws whole done mid
        turning_done z =
            onward_done T ws whole room mid rest o
            (ap (λ l. all_moved T J (map (λ k. i * w + k) l) (of_words T mid)) (place_none w x k is z) ∙ moved_none (of_words T mid))

        module _ (ne : k ≡ w → ⊥) (small : x < 2 ^ w) (r : Changing) (after : List ℕ) (h : Wrote T mid (atom_moved T J (i * w + k) (of_words T mid)) r after) where
          abbrev a : ℕ
          a = i * w + k

          abbrev later : List ℕ
          later = word_atoms w i (bit_and x (x - 1))

          go_on : rest ≡ and_then (atom_moved T J a (of_words T mid)) (all_moved T J later)
          go_on =
              ap (λ l. all_moved T J (map (λ k. i * w + k) l) (of_words T mid)) (place_off w x k is ne small)
              ∙ moved_more a later (of_words T mid)

          pub turning_stray : r ≡ out_of_range → Wrote T ws whole out_of_range after
          turning_stray s =
              let f = wrote_out_of_range T mid (atom_moved T J a (of_words T mid)) after r h s in
              onward_stray T ws whole room mid rest o after (go_on ∙ ap (λ o. and_then o (all_moved T J later)) f.0) f.1

          pub turning_more : r ≡ done → Turning after (bit_and x (x - 1))
          turning_more s =
              let f = wrote_done T mid (atom_moved T J a (of_words T mid)) after r h s in
              onward_more T ws whole room mid rest o (atom_moved T J a (of_words T mid)) (all_moved T J later) f.0 after
              go_on f.1 (moved_fits T J a (of_words T mid) f.0 f.1 (onward_fits T ws whole room mid rest o)) f.2
