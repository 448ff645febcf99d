-- The tests before 17: none of them is 17, and a candidate that passes them has atoms alone.
-- Assumes nothing.
use Prim.Native.Nat.{ℕ, ◌<◌, ◌≤◌, ◌-◌, ◌*◌, ◌/◌}
use Rattle.std.proofs.Common.{arith, sym, ◌∙◌, true≢false, lt-ltb, ltb-false}
use Rattle.std.specs.Prelude.{◌≡◌, Bool, ◌&&◌, Err}
use Rattle.std.proofs.Math.Path.{refl}
use Rattle.std.proofs.Math.Logic.{⊎_elim}
use Rattle.std.proofs.Math.Bool.{true, false, cond}
use mathlib.Core.List.{List, [], ◌∷◌}
use Rattle.std.proofs.Math.Dec.{eqb, ltb}
use Rattle.std.proofs.Math.ListN.{length}
use Rattle.base.specs.Tests.{below_or}
use Rattle.base.specs.Each.{Each}
use Rattle.base.specs.Places.{Lowest}
use Rattle.formula.specs.Passes.{Within}
use Rattle.theory.specs.Admission.{or_else, admitted}
use Rattle.theory.specs.Limits.{limits_of}
use Rattle.theory.specs.Refusal.{told}
use Rattle.theory.specs.Refusals.{not_both, or_else_left, or-else-right}
use Rattle.theory.specs.Only.{UpTo, only_admitted, only-or_else, up_to_test, up_to_passed, limits_up_to}
use Rattle.theory.specs.declared.Refusal.TheVariants.{ShortBuffer, ForeignStamp, StrayBit, BadEntry}
use Rattle.words.specs.Sets.{member}
use Rattle.words.specs.SetLaws.{member_past}
use Rattle.words.specs.Next.{next}
use Rattle.words.specs.NextLaws.{next_is}
use Rattle.kept.specs.Tables.{Tables, atom_count}
use Rattle.kept.specs.Candidate.{Candidate, listed_words, atoms_of}
use Rattle.kept.specs.Tests.{Buffer, buffers, first_short, stamps, stray_bit, tests}

-- ---- no 17

short_up_to : (bs : List Buffer) → UpTo 16 (first_short bs)
unfolding first_short told
short_up_to [] = only_admitted _
short_up_to (b ∷ bs) = up_to_test 16 (ltb b.lent b.least) (ShortBuffer b.number) (first_short bs) (omega arith) (short_up_to bs)

module _ (T : Tables) (c : Candidate) (size : ℕ) where
  tests_up_to : UpTo 16 (tests T c size)
  unfolding tests stamps stray_bit told
  tests_up_to =
      only-or_else _ (limits_of T.counts) _ (limits_up_to 16 T.counts (omega arith))
      (only-or_else _ (first_short (buffers T c size)) _ (short_up_to (buffers T c size))
      (only-or_else _ _ _
      (up_to_passed 16 (eqb c.stamp T.counts.stamp && eqb T.plan T.counts.stamp) ForeignStamp (omega arith))
      (up_to_test 16 (ltb (next 64 (listed_words T c) (atom_count T)) (64 * length (listed_words T c))) (StrayBit (next 64 (listed_words T c) (atom_count T))) admitted (omega arith) (only_admitted _))))

  pub tests-not_17 : (place : ℕ) → tests T c size ≡ Err (BadEntry place) → ⊥
  unfolding told
  tests-not_17 place e = omega (arith, tests_up_to (BadEntry place) e)

-- ---- an admitted candidate

module _ (T : Tables) (c : Candidate) where
  stray_within : stray_bit T c ≡ admitted → Within (atom_count T) (atoms_of T c)
  unfolding stray_bit atoms_of
  stray_within e a p = ⊎_elim (λ l. l) (λ l. absurd (clash l)) (below_or a (atom_count T))
    where
      ws : List ℕ
      ws = listed_words T c

      low : Lowest (member 64 ws) (atom_count T) (64 * length ws - atom_count T) (next 64 ws (atom_count T))
      low = next_is 64 ws (atom_count T)

      in_words : a < 64 * length ws
      in_words = ⊎_elim
          (λ l. omega (arith, l))
          (λ l. absurd (true≢false (sym p ∙ member_past 64 ws a l)))
          (below_or (a / 64) (length ws))

      at_most : atom_count T ≤ a → next 64 ws (atom_count T) ≤ a
      at_most l = ⊎_elim (λ m. absurd (true≢false (sym p ∙ low.before a l m))) (λ m. m) (below_or a (next 64 ws (atom_count T)))

      clash : atom_count T ≤ a → ⊥
      clash l = not_both (StrayBit (next 64 ws (atom_count T))) (rw (lt-ltb (next 64 ws (atom_count T)) (64 * length ws) (omega (arith, at_most l, in_words))) at e)

  pub atoms_within : (size : ℕ) → tests T c size ≡ admitted → Within (atom_count T) (atoms_of T c)
  unfolding tests
  atoms_within size e =
      stray_within (or-else-right (stamps T c) (stray_bit T c)
      (or-else-right (first_short (buffers T c size)) (or_else (stamps T c) (stray_bit T c))
      (or-else-right (limits_of T.counts) (or_else (first_short (buffers T c size)) (or_else (stamps T c) (stray_bit T c))) e)))

  -- the lent buffers are long enough
  long_by : (bs : List Buffer) → first_short bs ≡ admitted → Each (λ b. b.least ≤ b.lent) bs
  unfolding first_short
  long_by [] e = tt
  long_by (b ∷ bs) e = go (ltb b.lent b.least) refl e (long_by bs)
    where
      go : (t : Bool) → ltb b.lent b.least ≡ t → cond t (Err (ShortBuffer b.number)) (first_short bs) ≡ admitted
          → (first_short bs ≡ admitted → Each (λ b. b.least ≤ b.lent) bs) → Each (λ b. b.least ≤ b.lent) (b ∷ bs)
      go true q h ih = absurd (not_both (ShortBuffer b.number) h)
      go false q h ih = (ltb-false b.lent b.least q, ih h)

  pub lent_long : (size : ℕ) → tests T c size ≡ admitted → Each (λ b. b.least ≤ b.lent) (buffers T c size)
  unfolding tests
  lent_long size e =
      long_by (buffers T c size) (or_else_left (first_short (buffers T c size)) (or_else (stamps T c) (stray_bit T c))
      (or-else-right (limits_of T.counts) (or_else (first_short (buffers T c size)) (or_else (stamps T c) (stray_bit T c))) e))
