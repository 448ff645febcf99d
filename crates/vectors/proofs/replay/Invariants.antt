use Rattle.std.proofs.Common.{length}
use Rattle.vectors.proofs.replay.Given as goal

abbrev pub decreases-loop-length : goal.decreases-loop-length
decreases-loop-length g l = length l.files
