use Prim.Native.Nat.{ℕ, ◌≤◌}
use native.Mathlib.Omega.{arith}
use lib.Dec.{ltb}
use mathlib.Core.Bool.{Bool, true, false}
use mathlib.Core.Path.{◌≡◌}
use Rattle.graph.specs.Edge.{one}
use mir.Val.{bool_byte}
use Rattle.kahn.proofs.cost.Goals as goal

counted : (b : Bool) (x : ℕ) → x ≡ bool_byte b → (x ≡ one b) × (x ≤ 1)
counted true x e = (e, omega arith)
counted false x e = (e, omega arith)

pub returns : goal.returns
returns c = counted (ltb c.args.target c.args.atoms) _ c.from.ensures
