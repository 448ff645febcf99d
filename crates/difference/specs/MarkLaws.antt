-- Pairs marked unless their words are seen to be the same.
-- Assumes nothing.
use Rattle.std.specs.Prelude.{ℕ, ◌<◌, ◌≤◌, ◌+◌, ◌*◌, ◌/◌, ◌≡◌, true, List, length}
use Rattle.std.proofs.Common.{arith, sym, ◌∙◌, ⊎_elim, true≢false, eq-eqb, ne_eqb}
use Rattle.base.specs.Tests.{below_or, equal_or}
use Rattle.words.specs.Sets.{member, inserted}
use Rattle.words.specs.SetLaws.{member-inserted}
use Rattle.difference.specs.Marks.{Same, SameFrom, Upto}

module _ (at : ℕ) (kept new : List ℕ) where
  pub upto_none : (marks : List ℕ) → Upto at kept new 0 marks
  upto_none marks i l e = absurd (omega arith)

  -- pairs that are the same
  pub upto_same : (first end : ℕ) (marks : List ℕ) → SameFrom at kept new first end → Upto at kept new (2 * first) marks → Upto at kept new (2 * end) marks
  upto_same first end marks s u i a e = ⊎_elim (λ b. u i b e) (λ b. s i b a) (below_or i (2 * first))

  -- a word that is the same
  pub upto_word : (n : ℕ) (marks : List ℕ) → Same at kept new n → Upto at kept new n marks → Upto at kept new (n + 1) marks
  upto_word n marks s u i a e = ⊎_elim (λ p. rw (← p) s) (λ p. u i (omega arith) e) (equal_or n i)

  -- words of pair j, which is marked
  pub upto_marked : (n m j : ℕ) (marks : List ℕ) → j / 64 < length marks → 2 * j ≤ n → m ≤ 2 * j + 2 → Upto at kept new n marks → Upto at kept new m (inserted 64 marks j)
  upto_marked n m j marks l a b u i c e = ⊎_elim (λ p. absurd (true≢false (sym (there p) ∙ e))) (λ p. u i (omega arith) (sym (other p) ∙ e)) (equal_or j (i / 2))
    where
      there : j ≡ i / 2 → member 64 (inserted 64 marks j) (i / 2) ≡ true
      there p = member-inserted 64 marks j (i / 2) l ∙ rw (eq-eqb j (i / 2) p)

      other : (j ≡ i / 2 → ⊥) → member 64 (inserted 64 marks j) (i / 2) ≡ member 64 marks (i / 2)
      other p = member-inserted 64 marks j (i / 2) l ∙ rw (ne_eqb j (i / 2) p)
