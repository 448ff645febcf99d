use Prim.Native.Nat.{◌/◌, ◌^◌}
use native.Mathlib.Omega.{arith}
use mathlib.Core.Path.{refl}
use Rattle.readers.proofs.Steps.{read_as, other_tag}
use Rattle.readers.proofs.Reader.reading.Goals as goal

pub returns-in-0 : goal.returns-in-0
returns-in-0 c = read_as c.args.self.0 0 _ c.in-0.is refl

pub returns-in-2 : goal.returns-in-2
returns-in-2 c = read_as c.args.self.0 2 _ c.in-2.is refl

pub returns-in-3 : goal.returns-in-3
returns-in-3 c = read_as c.args.self.0 3 _ c.in-3.is refl

pub returns-in_default : goal.returns-in_default
returns-in_default c = read_as c.args.self.0 _ _ refl (other_tag (c.args.self.0 / 2 ^ 62) _ (omega arith) (omega arith) (omega arith))
