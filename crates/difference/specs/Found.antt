-- What is found of the first n words.
-- Assumes nothing.
use Rattle.std.specs.Prelude.{ℕ, ◌<◌, ◌≤◌, ◌+◌, ◌*◌, ◌/◌, min, ◌≡◌, List, length, get_or}
use Rattle.std.proofs.Common.{arith, ◌∙◌, ⊎_elim}
use Rattle.base.specs.Tests.{below_or}
use Rattle.theory.specs.declared.Counts.{Counts}
use Rattle.words.specs.Changed.{changed}
use Rattle.words.specs.Sets.{member, inserted}
use Rattle.kept.specs.SetOf.{words32}
use Rattle.kept.specs.Tables.{Tables}
use Rattle.kept.specs.Layout.{of_words}
use Rattle.kept.specs.Check.{changes}
use Rattle.kept_laws.specs.Given.{used_by, sized, candidate_at}
use Rattle.words.specs.Halves.{half}
use Rattle.difference.specs.declared.Differing.{Differing}
use Rattle.difference.specs.ChangedLaws.{word_changes, all_none, all_more, all_most, word_more, changed_same, words_changes}
use Rattle.difference.specs.Marks.{Same, SameFrom, Upto, Marked, Between}
use Rattle.difference.specs.PairLaws.{from_adds}
use Rattle.difference.specs.MarkLaws.{upto_none, upto_same, upto_word, upto_marked}

-- how many changes, those that are marked, and the pairs outside which there are none
pub record Found (at : ℕ) (kept new : List ℕ) (n : ℕ) (marks : List ℕ) (d : Differing) : Type 0 where
  pub counted : d.changes ≡ word_changes at kept new n
  pub marked : Upto at kept new n marks
  pub below : (i : ℕ) → i < 2 * d.first → i < n → Same at kept new i
  pub behind : (i : ℕ) → 2 * d.end ≤ i → i < n → Same at kept new i
  pub last : 2 * d.end ≤ n + 1

module _ (at : ℕ) (kept new : List ℕ) where
  pub found_none : (first : ℕ) (marks : List ℕ) → Found at kept new (2 * 0) marks (record { changes = 0; first = first; end = 0 })
  found_none first marks =
      record {
        counted = all_none at kept new;
        marked = upto_none at kept new marks;
        below = λ i a b. absurd (omega arith);
        behind = λ i a b. absurd (omega arith);
        last = omega arith;
      }

  -- pairs that are the same
  pub found_same : (j k : ℕ) (marks : List ℕ) (d : Differing) → j ≤ k → SameFrom at kept new j k → Found at kept new (2 * j) marks d → Found at kept new (2 * k) marks d
  found_same j k marks d l s f =
      record {
        counted = f.counted ∙ from_adds at kept new j k l s;
        marked = upto_same at kept new j k marks s f.marked;
        below = λ i a b. ⊎_elim (λ c. f.below i a c) (λ c. s i c b) (below_or i (2 * j));
        behind = λ i a b. ⊎_elim (λ c. f.behind i a c) (λ c. s i c b) (below_or i (2 * j));
        last = omega arith;
      }

  -- a pair that is marked
  pub found_pair : (j : ℕ) (marks after : List ℕ) (sum low high r m : ℕ) → Found at kept new (2 * j) marks (record { changes = sum; first = low; end = high })
      → word_changes at kept new (2 * j) + r ≡ word_changes at kept new (2 * (j + 1))
      → (Upto at kept new (2 * j) marks → Upto at kept new (2 * (j + 1)) after) → m ≡ min low j
      → Found at kept new (2 * (j + 1)) after (record { changes = sum + r; first = m; end = j + 1 })
  found_pair j marks after sum low high r m f p u e =
      record {
        counted = all_more at kept new (2 * j) (2 * (j + 1)) sum r f.counted p;
        marked = u f.marked;
        below = λ i a b. f.below i (omega arith) (omega arith);
        behind = λ i a b. absurd (omega arith);
        last = omega arith;
      }

  pub found_most : (n k : ℕ) (marks : List ℕ) (d : Differing) (r : ℕ) → Found at kept new n marks d → word_changes at kept new n + r ≡ word_changes at kept new k → d.changes + r ≤ k * 32
  found_most n k marks d r f p = all_most at kept new n k d.changes r f.counted p

  -- the last word, where it is the same
  pub found_word : (n : ℕ) (marks : List ℕ) (d : Differing) → Same at kept new (2 * n) → d.first ≤ n → Found at kept new (2 * n) marks d → Found at kept new (2 * n + 1) marks d
  found_word n marks d s l f =
      record {
        counted = omega (arith, f.counted, word_more at kept new (2 * n) 0 (changed_same (get_or kept (at + 2 * n) 0) (half new (2 * n)) s));
        marked = upto_word at kept new (2 * n) marks s f.marked;
        below = λ i a b. f.below i a (omega arith);
        behind = λ i a b. ⊎_elim (λ c. f.behind i a c) (λ c. at_last i (omega arith)) (below_or i (2 * n));
        last = omega arith;
      }
    where
      at_last : (i : ℕ) → i ≡ 2 * n → Same at kept new i
      at_last i e = rw e s

  -- and where it is marked
  pub found_marked : (n : ℕ) (marks : List ℕ) (d : Differing) (r : ℕ) → n / 64 < length marks → r ≡ changed 32 (get_or kept (at + 2 * n) 0) (half new (2 * n))
      → d.first ≤ n → Found at kept new (2 * n) marks d → Found at kept new (2 * n + 1) (inserted 64 marks n) (record { changes = d.changes + r; first = d.first; end = n + 1 })
  found_marked n marks d r room p l f =
      record {
        counted = all_more at kept new (2 * n) (2 * n + 1) d.changes r f.counted (word_more at kept new (2 * n) r p);
        marked = upto_marked at kept new (2 * n) (2 * n + 1) n marks room (omega arith) (omega arith) f.marked;
        below = λ i a b. f.below i a (omega arith);
        behind = λ i a b. absurd (omega arith);
        last = omega arith;
      }

-- of all words
module _ (t : Counts) (kept new marks : List ℕ) (d : Differing) (n : ℕ) where
  pub found_all : n ≡ words32 t.atoms → used_by t ≤ length kept → Found (candidate_at t) kept new n marks d
      → ((T : Tables) → d.changes ≡ changes (member 64 new) (of_words (sized t T) kept)) × (Marked t kept new marks × Between t kept new d.first d.end)
  found_all e room f = (
    (λ T. words_changes (sized t T) kept new room d.changes n f.counted e),
    (rw e at f.marked, ((λ i a b. f.below i a (omega arith)), (λ i a b. f.behind i a (omega arith)), omega arith)),
  )
