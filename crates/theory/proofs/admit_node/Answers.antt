use borrow.Author.Tests.{lt-ltb, le-ltb}
use Rattle.theory.specs.Admission.{node_admission}
use borrow.Author.Rules.{rules}
use Rattle.theory.proofs.admit_node.Goals as goal

pub returns-then-left-k : goal.returns-then-left-k
unfolding node_admission
returns-then-left-k c = simp (c.in-Implies.is, le-ltb _ _ c.if-left-k.true)

pub returns-then-right-k : goal.returns-then-right-k
unfolding node_admission
returns-then-right-k c = simp (c.in-Implies.is, lt-ltb _ _ c.if-left-k.false, le-ltb _ _ c.if-right-k.true)

pub admit_group-requires : goal.admit_group-requires
admit_group-requires c = (search rules, (rw c.in-And.is at c.requires.1).0, (rw c.in-And.is at c.requires.1).1)

pub admit_group-requires-in-Or : goal.admit_group-requires-in-Or
admit_group-requires-in-Or c = (search rules, (rw c.in-Or.is at c.requires.1).0, (rw c.in-Or.is at c.requires.1).1)

pub returns-then-a-counts : goal.returns-then-a-counts
unfolding node_admission
returns-then-a-counts c = simp (c.in-Atom.is, lt-ltb _ _ c.if-a-counts.true)

pub returns-else-a-counts : goal.returns-else-a-counts
unfolding node_admission
returns-else-a-counts c = simp (c.in-Atom.is, le-ltb _ _ c.if-a-counts.false)

pub returns-in-False : goal.returns-in-False
unfolding node_admission
returns-in-False c = simp c.in-False.is

pub returns-else-right-k : goal.returns-else-right-k
unfolding node_admission
returns-else-right-k c = simp (c.in-Implies.is, lt-ltb _ _ c.if-left-k.false, lt-ltb _ _ c.if-right-k.false)

pub returns-in-And : goal.returns-in-And
unfolding node_admission
returns-in-And c = simp c.in-And.is c.admit_group.ensures

pub returns-in-Or : goal.returns-in-Or
unfolding node_admission
returns-in-Or c = simp c.in-Or.is c.admit_group-in-Or.ensures

pub returns-in-Unknown : goal.returns-in-Unknown
unfolding node_admission
returns-in-Unknown c = simp c.in-Unknown.is
