-- The first degree of an atom that is not 0 is that of the lowest atom left over.
-- Assumes nothing.
use Prim.Native.Nat.{ℕ, ◌+◌, ◌≤◌, ◌<◌}
use native.Mathlib.Omega.{arith}
use mathlib.Core.Path.{◌≡◌, refl, sym, ap, ◌∙◌}
use mathlib.Core.Bool.{Bool, true, false, not, cond}
use mathlib.Core.List.{List}
use lib.Dec.{eqb, ltb}
use lib.ListN.{length, get_or}
use borrow.Author.Tests.{ltb-false}
use Rattle.std.specs.Prelude.{position, Some, None}
use Rattle.std.specs.List.{position_or_len}
use Rattle.std.proofs.lemmas.List.Quantifiers.{position-Some}
use Rattle.std.proofs.lemmas.List.Sums.{fails_before_first}
use Rattle.base.specs.Places.{lowest, lowest-only}
use Rattle.kahn.specs.Area.{part}
use Rattle.kahn.proofs.Sections.{part_at, part_long}

module _ (n A : ℕ) (area : List ℕ) (long : n + A ≤ length area) where
  left : ℕ → Bool
  left d = not (eqb d 0)

  degrees_long : length (part n A area) ≡ A
  degrees_long = part_long n A area long

  -- a degree read in its place
  read : (v : ℕ) (b : Bool) → v < A → not (eqb (get_or (part n A area) v 0) 0) ≡ b → not (eqb (get_or area (n + v) 0) 0) ≡ b
  read v b l e = ap (λ d. not (eqb d 0)) (sym (part_at n A area v l)) ∙ e

  pub left_some : (a : ℕ) → position (λ d. not (eqb d 0)) (part n A area) ≡ Some a → (a < A) × (a ≡ lowest (λ v. not (eqb (get_or area (n + v) 0) 0)) 0 A)
  left_some a e =
      let h = position-Some (λ d. not (eqb d 0)) (part n A area) a 0 e in
      let low : a < A = omega (arith, h.0, degrees_long) in (
        low,
        lowest-only _ 0 A a (record {
          from = omega arith;
          within = omega arith;
          before = λ k b l. read k false (omega arith) (h.2 k l);
          here = λ l. read a true low h.1;
        }),
      )

  pub left_none : position (λ d. not (eqb d 0)) (part n A area) ≡ None → A ≡ lowest (λ v. not (eqb (get_or area (n + v) 0) 0)) 0 A
  left_none e =
      lowest-only _ 0 A A (record {
        from = omega arith;
        within = omega arith;
        before = λ k b l. read k false l (fails_before_first (λ d. not (eqb d 0)) (part n A area) k 0 (omega (arith, all, degrees_long)));
        here = λ l. absurd (omega arith);
      })
    where
      first : ℕ
      first = position_or_len (λ d. not (eqb d 0)) (part n A area)

      all : length (part n A area) ≤ first
      all = go (ltb first (length (part n A area))) refl e
        where
          go : (b : Bool) → ltb first (length (part n A area)) ≡ b → cond b (Some first) None ≡ None → length (part n A area) ≤ first
          go true t f = cc
          go false t f = ltb-false _ _ t
