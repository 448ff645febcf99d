use native.Mathlib.Nat.{zero-add}
use mathlib.Core.Path.{sym}
use Rattle.readers.specs.Reader.{packed}
use Rattle.readers.proofs.Reader.node.Goals as goal

pub returns : goal.returns
unfolding packed
returns c = sym (zero-add _)
