use native.Mathlib.Omega.{arith}
use Rattle.difference.specs.Found.{found_same}
use Rattle.difference.proofs.block_changes.Goals as goal

pub returns-then-same_pairs : goal.returns-then-same_pairs
returns-then-same_pairs c = (found_same c.args.at c.args.kept.now c.args.candidate.now c.args.first c.args.end c.args.marks.now c.args.d c.requires.first_le_end.0 (c.same_pairs.ensures c.if-same_pairs.true) c.requires.found, omega arith)
