-- The kept candidate has atoms alone if its words have no member past them: what a caller tests before the start.
-- Assumes nothing.
use Rattle.std.specs.Prelude.{ℕ, ◌≤◌, ◌*◌, ◌/◌, ◌%◌, ◌≡◌, false, List, length}
use Rattle.std.proofs.Common.{arith, sym, ◌∙◌, ⊎_elim, true≢false}
use Rattle.std.proofs.Math.Path.{ap}
use Rattle.std.proofs.Math.ListN.{get_or-eq_default}
use Rattle.base.specs.Tests.{below_or}
use Rattle.formula.specs.Passes.{Within}
use Rattle.words.specs.Bit.{bit}
use Rattle.words.specs.BitLaws.{bit-zero}
use Rattle.words.specs.Sets.{member}
use Rattle.words.specs.Next.{next}
use Rattle.words.specs.NextLaws.{next_is}
use Rattle.readers.specs.Laid.{part}
use Rattle.kept.specs.SetOf.{words32}
use Rattle.kept.specs.Tables.{Tables, atom_count}
use Rattle.kept.specs.Evaluation.{present}
use Rattle.kept.specs.Layout.{of_words, candidate_start, missing_start, used}
use Rattle.kept.specs.LayoutLaws.{fits_of}
use Rattle.kept_laws.specs.Written.{part-candidate}

module _ (T : Tables) (ws : List ℕ) (room : used T ≤ length ws) where
  past : (j : ℕ) → words32 (atom_count T) * 32 ≤ j → present (of_words T ws) j ≡ false
  unfolding member
  past j l =
      ap (λ x. bit x (j % 32)) (get_or-eq_default (of_words T ws).candidate 0 {n = j / 32} (omega (arith, (fits_of T ws room).candidate))) ∙ bit-zero (j % 32)

  pub kept_within : words32 (atom_count T) * 32 ≤ next 32 (part ws (candidate_start T) (missing_start T)) (atom_count T) → Within (atom_count T) (present (of_words T ws))
  kept_within h a p = ⊎_elim (λ l. l) (λ l. absurd (true≢false (sym p ∙ outside l))) (below_or a (atom_count T))
    where
      outside : atom_count T ≤ a → present (of_words T ws) a ≡ false
      outside l =
          ⊎_elim
          (λ b. ap (λ c. member 32 c a) (sym (part-candidate T ws room)) ∙ (next_is 32 (part ws (candidate_start T) (missing_start T)) (atom_count T)).before a l (omega arith))
          (past a)
          (below_or a (words32 (atom_count T) * 32))
