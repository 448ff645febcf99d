use mathlib.Core.Path.{refl}
use Rattle.words.specs.Bit.{bit}
use Rattle.kept_laws.specs.Within.{candidate_within}
use Rattle.node_truth.specs.InWords.{present_in}
use Rattle.node_truth.proofs.present.Goals as goal

pub bounds-kept-at : goal.bounds-kept-at
bounds-kept-at c = rw c.candidate_at.ensures (candidate_within c.args.counts _ c.requires.2 _ c.requires.1)

pub returns : goal.returns
unfolding present_in bit
returns c = rw c.candidate_at.ensures refl
