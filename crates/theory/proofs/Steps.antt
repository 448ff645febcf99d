-- What each exit and each turn of a loop of the crate's functions gives.
-- Assumes nothing.
use Prim.Native.Nat.{ℕ, zero, suc, ◌+◌, ◌*◌, ◌<◌}
use native.Mathlib.Omega.{arith}
use mathlib.Core.Path.{◌≡◌, refl}
use mathlib.Core.List.{List}
use lib.ListN.{get_or}
use Rattle.theory.specs.Node.{decoded, node_at}
use Rattle.theory.specs.declared.Node.{Node}
use Rattle.theory.specs.declared.Node.TheVariants.{Unknown}

pub view_is : (nodes : List ℕ) (k kind a b : ℕ) (r : Node)
    → kind ≡ get_or nodes (3 * k) 0 → a ≡ get_or nodes (3 * k + 1) 0 → b ≡ get_or nodes (3 * k + 2) 0
    → r ≡ decoded kind a b → r ≡ node_at nodes k
unfolding node_at
view_is nodes k kind a b r p q s e = rw (← p, ← q, ← s) e

pub view_unknown : (kind a b : ℕ) → 4 < kind → Unknown ≡ decoded kind a b
view_unknown zero a b h = absurd (omega arith)
view_unknown (suc zero) a b h = absurd (omega arith)
view_unknown (suc (suc zero)) a b h = absurd (omega arith)
view_unknown (suc (suc (suc zero))) a b h = absurd (omega arith)
view_unknown (suc (suc (suc (suc zero)))) a b h = absurd (omega arith)
view_unknown (suc (suc (suc (suc (suc n))))) a b h = refl
