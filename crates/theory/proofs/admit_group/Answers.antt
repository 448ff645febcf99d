use borrow.Author.Tests.{eq-eqb, ne_eqb, le-leb, lt-leb}
use Rattle.theory.specs.Admission.{group_admission}
use Rattle.theory.proofs.admit_group.Goals as goal

pub returns-then-c-eq0 : goal.returns-then-c-eq0
unfolding group_admission
returns-then-c-eq0 c = simp (eq-eqb _ _ c.if-c-eq0.true)

pub returns-then-s-start : goal.returns-then-s-start
unfolding group_admission
returns-then-s-start c = simp (ne_eqb _ _ c.if-c-eq0.false, ne_eqb _ _ c.if-s-start.true)

pub returns-then-s-c : goal.returns-then-s-c
unfolding group_admission
returns-then-s-c c = simp (ne_eqb _ _ c.if-c-eq0.false, eq-eqb _ _ c.if-s-start.false, lt-leb _ _ c.if-s-c.true)

pub returns-then-all_below : goal.returns-then-all_below
unfolding group_admission
returns-then-all_below c = simp (ne_eqb _ _ c.if-c-eq0.false, eq-eqb _ _ c.if-s-start.false, le-leb _ _ c.if-s-c.false, ← c.all_below.ensures, c.if-all_below.true)

pub returns-else-all_below : goal.returns-else-all_below
unfolding group_admission
returns-else-all_below c = simp (ne_eqb _ _ c.if-c-eq0.false, eq-eqb _ _ c.if-s-start.false, le-leb _ _ c.if-s-c.false, ← c.all_below.ensures, c.if-all_below.false)
