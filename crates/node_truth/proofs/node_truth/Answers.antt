use Rattle.node_truth.specs.InWords.{atom_seen, implies_seen, span_seen}
use Rattle.kept.specs.Seen.{node_seen}
use Rattle.theory.specs.Node.{node_at}
use native.Mathlib.Omega.{arith}
use Rattle.node_truth.proofs.node_truth.Goals as goal

pub returns-then-nodes-k-eq2 : goal.returns-then-nodes-k-eq2
unfolding node_seen implies_seen node_at
returns-then-nodes-k-eq2 c = rw (c.if-nodes-k-eq2.true, ← c.word-left.ensures.value, ← c.word-right.ensures.value) c.implies_truth.ensures

pub span_truth-requires : goal.span_truth-requires
span_truth-requires c = (omega (arith, c.requires), (rw c.in-And.is at c.view.ensures.small).0, (rw c.in-And.is at c.view.ensures.small).1, omega (arith, c.requires))

pub span_truth-requires-in-Or : goal.span_truth-requires-in-Or
span_truth-requires-in-Or c = (omega (arith, c.requires), (rw c.in-Or.is at c.view.ensures.small).0, (rw c.in-Or.is at c.view.ensures.small).1, omega (arith, c.requires))

pub returns-in-Atom : goal.returns-in-Atom
unfolding node_seen atom_seen
returns-in-Atom c = rw (← c.view.ensures.value, c.in-Atom.is) c.atom_truth.ensures

pub returns-in-False : goal.returns-in-False
unfolding node_seen
returns-in-False c = rw (← c.view.ensures.value, c.in-False.is)

pub returns-in-Implies : goal.returns-in-Implies
unfolding node_seen implies_seen
returns-in-Implies c = rw (← c.view.ensures.value, c.in-Implies.is) c.implies_truth-in-Implies.ensures

pub returns-in-And : goal.returns-in-And
unfolding node_seen span_seen
returns-in-And c = rw (← c.view.ensures.value, c.in-And.is) c.span_truth.ensures

pub returns-in-Or : goal.returns-in-Or
unfolding node_seen span_seen
returns-in-Or c = rw (← c.view.ensures.value, c.in-Or.is) c.span_truth-in-Or.ensures

pub returns-in-Unknown : goal.returns-in-Unknown
unfolding node_seen
returns-in-Unknown c = rw (← c.view.ensures.value, c.in-Unknown.is)
