use mathlib.Core.Path.{◌≡◌}
use Prim.Native.Nat.{◌-◌, ◌≤◌}
use Rattle.theory.specs.Node.{node_at}
use Rattle.theory.specs.Admission.{first_refusal, node_admission, nodes_admission, span_start}
use Rattle.theory.proofs.admit_nodes.Given as goal

abbrev pub invariant-loop-k : goal.invariant-loop-k
invariant-loop-k l = (l.k ≤ l.n) × (l.n ≡ l.counts.nodes) × (l.start ≤ l.counts.operands) × (l.start ≡ span_start l.nodes l.k) × (nodes_admission l.counts l.nodes l.operands ≡ first_refusal (λ j. node_admission l.counts l.operands (span_start l.nodes j) j (node_at l.nodes j)) l.k (l.n - l.k))

abbrev pub decreases-loop-k : goal.decreases-loop-k
decreases-loop-k l = l.n - l.k
