use native.Mathlib.Omega.{arith}
use mathlib.Core.Path.{◌≡◌}
use Rattle.load.proofs.Laws.{copy_done}
use Rattle.load.proofs.copy.Goals as goal

pub returns : goal.returns
returns c = let e : c.args.count ≡ c.loop-i.i = omega arith in copy_done _ _ _ _ _ _ _ c.loop-i.invariant e
