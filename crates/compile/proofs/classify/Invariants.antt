use mathlib.Core.Path.{◌≡◌}
use mathlib.Core.List.{◌++◌}
use Prim.Native.Nat.{◌-◌, ◌≤◌}
use lib.ListN.{length, drop}
use Rattle.compile.specs.ClassWord.{class_words}
use Rattle.compile.proofs.classify.Given as goal

abbrev pub invariant-loop-k : goal.invariant-loop-k
invariant-loop-k l = (l.k ≤ l.n) × (l.n ≡ l.counts.nodes) × (length l.classes ≡ length l.initial.classes) × (l.classes ≡ class_words l.nodes l.operands l.k ++ drop l.k l.initial.classes)

abbrev pub decreases-loop-k : goal.decreases-loop-k
decreases-loop-k l = l.n - l.k
