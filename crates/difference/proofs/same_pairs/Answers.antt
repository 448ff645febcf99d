use Prim.Native.Nat.{◌+◌}
use native.Mathlib.Omega.{arith}
use mathlib.Core.Path.{◌≡◌}
use mathlib.Core.Bool.{false≢true}
use Rattle.difference.proofs.same_pairs.Goals as goal

pub returns-then-candidate-le16 : goal.returns-then-candidate-le16
returns-then-candidate-le16 c = λ e. absurd (false≢true e)

pub returns-then-end-first-lt16 : goal.returns-then-end-first-lt16
returns-then-end-first-lt16 c = λ e. absurd (false≢true e)

pub returns : goal.returns
returns c = λ e. let q : c.args.first + 16 ≡ c.args.end = omega arith in rw q at (c.same_block.ensures e)
