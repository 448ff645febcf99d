use mathlib.Core.Path.{refl}
use Rattle.node_truth.specs.InWords.{true_in}
use Rattle.node_truth.proofs.holds.Goals as goal

pub returns : goal.returns
unfolding true_in
returns c = refl
