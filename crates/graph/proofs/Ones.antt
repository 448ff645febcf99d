-- Laws of `one`: 1 for a test that holds, else 0.
-- Assumes nothing.
use Prim.Native.Nat.{ℕ, ◌≤◌, ◌<◌}
use native.Mathlib.Omega.{arith}
use mathlib.Core.Path.{◌≡◌, refl, ap}
use mathlib.Core.Bool.{Bool, true, false, ◌&&◌}
use lib.Dec.{eqb}
use borrow.Author.Tests.{eqb-true, ne_eqb}
use Rattle.graph.specs.Edge.{one}

pub one_most : (b : Bool) → one b ≤ 1
one_most true = omega arith
one_most false = omega arith

pub one_neither : (a b : Bool) → b ≡ false → one (a && b) ≡ 0
one_neither true b e = rw e
one_neither false b e = refl

pub zero_one : (x : ℕ) → 0 < one (eqb x 0) → x ≡ 0
zero_one x h = go (eqb x 0) refl
  where
    go : (b : Bool) → eqb x 0 ≡ b → x ≡ 0
    go true e = eqb-true x 0 e
    go false e = absurd (omega (arith, rw e at h))

pub one_zero : (x : ℕ) → 0 < x → one (eqb x 0) ≡ 0
one_zero x h = ap one (ne_eqb x 0 (λ e. omega arith))
