-- A set in u32 words with the number of its members, as a lent buffer may hold it, sound or not.
-- Assumes nothing.
use Rattle.std.specs.Prelude.{ℕ, zero, suc, Bool, true, false, cond, List, eqb, ltb, Option, Some, None}
use Rattle.base.specs.Places.{count}
use Rattle.words.specs.Changed.{unlike}
use Rattle.words.specs.Sets.{member, inserted, removed}
use Rattle.words.specs.Next.{next}
use Rattle.kept.specs.SetOf.{set_of}

-- what follows, if nothing was out of its range
abbrev pub and_then : {A B : Type 0} → Option A → (A → Option B) → Option B
and_then None f = None
and_then (Some a) f = f a

pub record CountedSet : Type 0 where
  pub members : List ℕ
  pub size : ℕ

-- the places below n at which f holds
unfoldable pub counted_set : (ℕ → Bool) → ℕ → CountedSet
counted_set f n = record { members = set_of f n; size = count f 0 n }

-- a count one up or one down; none: it would leave its range, 0 to most
unfoldable pub moved : ℕ → Bool → ℕ → Option ℕ
moved most true n = cond (ltb n most) (Some (suc n)) None
moved most false zero = None
moved most false (suc n) = Some n

unfoldable pub with_bit : List ℕ → ℕ → Bool → List ℕ
with_bit ws i true = inserted 32 ws i
with_bit ws i false = removed 32 ws i

-- i, a place below n, becomes a member or none
unfoldable pub with_member : ℕ → CountedSet → ℕ → Bool → Option CountedSet
with_member n s i x =
    cond (unlike (member 32 s.members i) x)
    (and_then (moved n x s.size) (λ m. Some (record { members = with_bit s.members i x; size = m })))
    (Some s)

pub data Lookup : Type 0 where
  empty astray : Lookup
  at : ℕ → Lookup

-- the lowest member from i on; astray: there is none though the count is not 0, or it is not below n
unfoldable pub lookup : ℕ → ℕ → CountedSet → Lookup
lookup n i s = cond (eqb s.size 0) empty (cond (ltb (next 32 s.members i) n) (at (next 32 s.members i)) astray)
