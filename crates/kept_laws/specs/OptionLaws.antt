-- What follows where nothing was out of its range.
-- Assumes nothing.
use Rattle.std.specs.Prelude.{ℕ, ◌≡◌, refl, Bool, true, false, not, cond, Option, Some, None}
use Rattle.std.proofs.Common.{arith}
use Rattle.kept.specs.CountedSet.{and_then}

module _ {A : Type 0} where
  pub some_is : (a b : A) → Some a ≡ Some b → a ≡ b
  some_is a b e = cc

  pub if_some : (b : Bool) (o : Option A) (a : A) → cond b o None ≡ Some a → (b ≡ true) × (o ≡ Some a)
  if_some true o a e = (refl, e)
  if_some false o a e = let z : ◌≡◌ {A = ℕ} 0 1 = cc in absurd (omega arith)

  pub then_some : {B : Type 0} (o : Option A) (f : A → Option B) (b : B) → and_then o f ≡ Some b → (a : A) × (o ≡ Some a) × (f a ≡ Some b)
  then_some None f b e = let z : ◌≡◌ {A = ℕ} 0 1 = cc in absurd (omega arith)
  then_some (Some a) f b e = (a, refl, e)

-- a test turned round
pub not-true : (b : Bool) → not b ≡ true → b ≡ false
not-true true e = cc
not-true false e = refl

pub not-false : (b : Bool) → not b ≡ false → b ≡ true
not-false true e = refl
not-false false e = cc
