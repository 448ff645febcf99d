-- The start of the walk gone through from the front, as a loop goes: what is left to do from atom a on.
-- Assumes nothing.
use Prim.Native.Nat.{ℕ, zero, suc, ◌<◌, ◌≤◌, ◌+◌, ◌-◌}
use native.Mathlib.Omega.{arith}
use Rattle.std.proofs.Common.{zero-add, ap, ◌∙◌}
use Rattle.std.proofs.Math.Nat.{add-zero}
use Rattle.std.specs.Prelude.{◌≡◌, true, false, Option, Some, None}
use Rattle.std.proofs.Math.Path.{refl}
use Rattle.base.specs.Places.{Lowest}
use Rattle.formula.specs.Satisfaction.{Interpretation}
use Rattle.words.specs.Changed.{unlike}
use Rattle.kept.specs.CountedSet.{and_then}
use Rattle.kept.specs.Tables.{Tables}
use Rattle.kept.specs.Evaluation.{Evaluation, present}
use Rattle.kept.specs.Start.{atom_turned, atom_updated, walk_start}

module _ (T : Tables) (J : Interpretation) where
  unfoldable pub start_from : ℕ → ℕ → Evaluation → Option Evaluation
  start_from a zero e = Some e
  start_from a (suc n) e = and_then (atom_updated T J a e) (start_from (a + 1) n)

  start_last : (a n : ℕ) (e : Evaluation) → start_from a (suc n) e ≡ and_then (start_from a n e) (atom_updated T J (a + n))
  unfolding start_from
  start_last a zero e = rw (add-zero a) (go (atom_updated T J a e))
    where
      go : (o : Option Evaluation) → and_then o (start_from (a + 1) zero) ≡ o
      go None = refl
      go (Some d) = refl
  start_last a (suc n) e =
      let shift : a + suc n ≡ a + 1 + n = omega arith in
      rw shift (go (atom_updated T J a e) (λ d. start_last (a + 1) n d))
    where
      go : (o : Option Evaluation) → ((d : Evaluation) → and_then (atom_updated T J (a + 1) d) (start_from (a + 1 + 1) n) ≡ and_then (start_from (a + 1) n d) (atom_updated T J (a + 1 + n)))
          → and_then o (λ d. and_then (atom_updated T J (a + 1) d) (start_from (a + 1 + 1) n)) ≡ and_then (and_then o (start_from (a + 1) n)) (atom_updated T J (a + 1 + n))
      go None h = refl
      go (Some d) h = h d

  start_none : (e : Evaluation) → start_from 0 0 e ≡ Some e
  unfolding start_from
  start_none e = refl

  pub start_from_lem : (n : ℕ) (e : Evaluation) → start_from 0 n e ≡ walk_start T J n e
  unfolding walk_start
  start_from_lem zero e = start_none e
  start_from_lem (suc n) e = start_last 0 n e ∙ rw (zero-add n, start_from_lem n e)

  -- atoms that do not differ are passed over
  pub start_jump : (m a n : ℕ) (e : Evaluation) → ((j : ℕ) → a ≤ j → j < a + m → unlike (present e j) (J j) ≡ false) → start_from a (m + n) e ≡ start_from (a + m) n e
  unfolding start_from atom_updated
  start_jump zero a n e h = rw (zero-add n, add-zero a)
  start_jump (suc m) a n e h =
      let x : suc m + n ≡ suc (m + n) = omega arith in
      let y : a + suc m ≡ a + 1 + m = omega arith in
      rw (x, y, h a (omega arith) (omega arith)) (start_jump m (a + 1) n e (λ j l r. h j (omega arith) (omega arith)))

  -- the next atom that differs is turned
  pub start_turn : (a n : ℕ) (e : Evaluation) → unlike (present e a) (J a) ≡ true → start_from a (suc n) e ≡ and_then (atom_turned T J a e) (start_from (a + 1) n)
  unfolding start_from atom_updated
  start_turn a n e h = rw h

  -- so with the lowest of them (trailing zeros of the words' difference), or none
  pub start_next : (a n k : ℕ) (e : Evaluation) → Lowest (λ j. unlike (present e j) (J j)) a n k → k < a + n
      → start_from a n e ≡ and_then (atom_turned T J k e) (start_from (k + 1) (a + n - (k + 1)))
  start_next a n k e l h =
      let x : n ≡ (k - a) + suc (a + n - (k + 1)) = omega (arith, l.from) in
      let y : a + (k - a) ≡ k = omega (arith, l.from) in
      ap (λ z. start_from a z e) x
      ∙ start_jump (k - a) a (suc (a + n - (k + 1))) e (λ j p q. l.before j p (omega (arith, y)))
      ∙ ap (λ z. start_from z (suc (a + n - (k + 1))) e) y
      ∙ start_turn k (a + n - (k + 1)) e (l.here h)
