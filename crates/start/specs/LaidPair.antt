-- A pair's words laid into the lent words, then its changed atoms moved: these atoms are turned.
-- Assumes nothing.
use Rattle.std.specs.Prelude.{ℕ, ◌<◌, ◌≤◌, ◌+◌, ◌*◌, ◌/◌, ◌%◌, ◌^◌, ◌≡◌, true, List, length, set}
use Rattle.std.proofs.Common.{arith, ap, sym, ◌∙◌, ⊎_elim, length-set, pow_pos, lt-ltb, le-ltb}
use Rattle.std.specs.Int.Bits.{bit_xor}
use Rattle.std.proofs.Math.ListN.{get_or-eq_default}
use Rattle.base.specs.Tests.{below_or}
use Rattle.base.specs.Places.{places}
use Rattle.formula.specs.Satisfaction.{Interpretation}
use Rattle.theory.specs.declared.Counts.{Counts}
use Rattle.words.specs.Bit.{bit}
use Rattle.words.specs.Changed.{unlike}
use Rattle.kept.specs.SetOf.{words32, words64}
use Rattle.kept.specs.SetOfLaws.{Small}
use Rattle.kept.specs.Tables.{Tables, atom_count}
use Rattle.kept.specs.Evaluation.{Evaluation, present}
use Rattle.kept.specs.Layout.{of_words, written, candidate_start, used}
use Rattle.kept.specs.LayoutLaws.{Fits, fits_of}
use Rattle.kept_laws.specs.Given.{candidate_at}
use Rattle.kept_laws.specs.StartChanged.{all_turned}
use Rattle.kept_laws.specs.Written.{written_same, put_candidate, get_candidate}
use Rattle.kept_laws.specs.Wrote.{Wrote, mid_holds, wrote_then, Changing}
use Rattle.start.specs.Moved.{all_moved, pair_laid}
use Rattle.start.specs.MovedLaws.{over, over_fits, all_moved_lem}
use Rattle.start.specs.WordLaws.{word_atoms}
use Rattle.start.specs.PairLaws.{Holds, pair_atoms}
use Rattle.start.specs.LayLaws.{Replaced, replaced_one, replaced_two, laid_replaced}

-- ---- as the code stores it

module _ (t : Counts) (j x : ℕ) (ws : List ℕ) where
  pub laid_two : 64 * j + 32 < t.atoms → pair_laid t j x ws ≡ set (set ws (candidate_at t + 2 * j) (x % 2 ^ 32)) (candidate_at t + 2 * j + 1) (x / 2 ^ 32)
  unfolding pair_laid
  laid_two l = rw (lt-ltb (64 * j + 32) t.atoms l)

  pub laid_one : t.atoms ≤ 64 * j + 32 → pair_laid t j x ws ≡ set ws (candidate_at t + 2 * j) (x % 2 ^ 32)
  unfolding pair_laid
  laid_one l = rw (le-ltb (64 * j + 32) t.atoms l)

-- ---- as the evaluation has it

module _ (T : Tables) (ws : List ℕ) (room : used T ≤ length ws) (words : Small 32 ws) (j new : ℕ) (low : new < 2 ^ 64) (inside : j < words64 (atom_count T))
    (mid : List ℕ) (stored : mid ≡ pair_laid T.counts j new ws) where
  abbrev e : Evaluation
  e = of_words T ws

  fits : Fits T e
  fits = fits_of T ws room

  small : Small 32 e.candidate
  small k = ⊎_elim
      (λ l. rw (← get_candidate T ws room k l) (words (candidate_start T + k)))
      (λ l. rw (get_or-eq_default e.candidate 0 {n = k} (omega (arith, fits.candidate))) (pow_pos 32))
      (below_or k (words32 (atom_count T)))

  abbrev one : List ℕ
  one = set e.candidate (2 * j) (new % 2 ^ 32)

  first : set ws (candidate_start T + 2 * j) (new % 2 ^ 32) ≡ written T ws (over e one)
  first = ap (λ w. set w (candidate_start T + 2 * j) (new % 2 ^ 32)) (sym (written_same T ws room)) ∙ put_candidate T ws room e fits (2 * j) (new % 2 ^ 32) (omega arith)

  abbrev Lays : Type 0
  Lays = (c : List ℕ) × (mid ≡ written T ws (over e c)) × Replaced e.candidate j new c

  lays : Lays
  lays = ⊎_elim both last (below_or (64 * j + 32) (atom_count T))
    where
      both : 64 * j + 32 < atom_count T → Lays
      both l =
          let next : candidate_start T + 2 * j + 1 ≡ candidate_start T + (2 * j + 1) = omega arith in (
            set one (2 * j + 1) (new / 2 ^ 32),
            stored ∙ laid_two T.counts j new ws l
                ∙ ap (λ w. set w (candidate_start T + 2 * j + 1) (new / 2 ^ 32)) first
                ∙ ap (λ i. set (written T ws (over e one)) i (new / 2 ^ 32)) next
                ∙ put_candidate T ws room (over e one) (over_fits T e one (length-set e.candidate (2 * j) (new % 2 ^ 32)) fits) (2 * j + 1) (new / 2 ^ 32) (omega arith),
            replaced_two e.candidate j new small (omega (arith, fits.candidate)) low,
          )

      last : atom_count T ≤ 64 * j + 32 → Lays
      last l = (one, stored ∙ laid_one T.counts j new ws l ∙ first, replaced_one e.candidate j new small (omega (arith, fits.candidate)))

  module _ (within : (k : ℕ) → k < 64 → unlike (present e (j * 64 + k)) (bit new k) ≡ true → j * 64 + k < atom_count T)
      (J : Interpretation) (same : (k : ℕ) → k < 64 → J (j * 64 + k) ≡ bit new k) where
    abbrev changed : List ℕ
    changed = places (λ a. unlike (present e a) (J a)) (j * 64) 64

    in_words : (k : ℕ) → k < 64 → unlike (present e (j * 64 + k)) (bit new k) ≡ true → (j * 64 + k) / 32 < length e.candidate
    in_words k l h = omega (arith, within k l h, fits.candidate)

    pub pair_turned : (x : ℕ) → Holds T ws j x → (r : Changing) (after : List ℕ)
        → Wrote T mid (all_moved T J (word_atoms 64 j (bit_xor x new)) (of_words T mid)) r after
        → Wrote T ws (all_turned T J (places (λ a. unlike (present (of_words T ws) a) (J a)) (j * 64) 64) (of_words T ws)) r after
    pair_turned x holds r after h =
        let c : List ℕ = lays.0 in
        let f : Fits T (over e c) = over_fits T e c lays.2.long fits in
        let moved : all_moved T J (word_atoms 64 j (bit_xor x new)) (of_words T mid) ≡ all_turned T J changed e =
        ap (λ ks. all_moved T J ks (of_words T mid)) (sym (pair_atoms T ws j x new holds J same))
        ∙ ap (all_moved T J changed) (mid_holds T ws mid (over e c) room f lays.1)
        ∙ ap (λ d. all_moved T J changed (over e d)) (sym (laid_replaced J e.candidate j new small same in_words c lays.2))
        ∙ all_moved_lem T J changed e in
        rw moved at (wrote_then T ws mid (over e c) room f lays.1 (all_moved T J (word_atoms 64 j (bit_xor x new)) (of_words T mid)) r after h)
