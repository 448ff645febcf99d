use native.Mathlib.Omega.{arith}
use mathlib.Core.Logic.{⊎_elim}
use Rattle.ranks.specs.Dependency.{only}
use Rattle.dependency.specs.CursorLaws.{next_frozen, next_last, next_slot, operand_within, operand_below, class_yes, class_no}
use Rattle.dependency.proofs.operand_dependency.Goals as goal

pub returns-then-word-ne1 : goal.returns-then-word-ne1
returns-then-word-ne1 c =
    ⊎_elim (λ ne. next_frozen c.args.counts c.args.nodes.now c.args.operands.now c.args.classes.now c.args.roots.now c.args.c c.requires.2 c.args.s c.args.n c.requires.0 c.requires.3 (class_no c.args.classes.now c.args.c.node _ c.word.ensures.value ne)) (λ w. next_last c.args.counts c.args.nodes.now c.args.operands.now c.args.classes.now c.args.roots.now c.args.c c.requires.2 c.args.s c.args.n c.requires.0 c.requires.3 w.1) c.then-word-ne1.either

pub overflow_add-s : goal.overflow_add-s
overflow_add-s c = omega (arith, operand_within _ _ _ c.requires.1.tables _ c.requires.0 _ _ c.requires.3)

pub word-o-requires : goal.word-o-requires
word-o-requires c = omega (arith, operand_within _ _ _ c.requires.1.tables _ c.requires.0 _ _ c.requires.3)

pub word-requires-2 : goal.word-requires-2
word-requires-2 c = omega (arith, operand_below _ _ _ c.requires.1.tables _ c.requires.0 _ _ c.requires.3 _ _ c.if-c-n.false c.word-o.ensures.value)

pub returns-then-word-eq1 : goal.returns-then-word-eq1
unfolding only
returns-then-word-eq1 c = (rw (class_yes c.args.classes.now c.word-o.result _ c.word-2.ensures.value c.if-word-eq1.true) at (next_slot c.args.counts c.args.nodes.now c.args.operands.now c.args.classes.now c.args.roots.now c.args.c c.requires.2 c.args.s c.args.n c.requires.0 c.requires.3 _ (class_yes c.args.classes.now c.args.c.node _ c.word.ensures.value c.if-word-ne1.false) c.if-c-n.false (operand_within _ _ _ c.requires.1.tables _ c.requires.0 _ _ c.requires.3) c.word-o.ensures.value), omega (arith, operand_below _ _ _ c.requires.1.tables _ c.requires.0 _ _ c.requires.3 _ _ c.if-c-n.false c.word-o.ensures.value), omega arith)

pub returns-else-word-eq1 : goal.returns-else-word-eq1
unfolding only
returns-else-word-eq1 c = rw (class_no c.args.classes.now c.word-o.result _ c.word-2.ensures.value c.if-word-eq1.false) at (next_slot c.args.counts c.args.nodes.now c.args.operands.now c.args.classes.now c.args.roots.now c.args.c c.requires.2 c.args.s c.args.n c.requires.0 c.requires.3 _ (class_yes c.args.classes.now c.args.c.node _ c.word.ensures.value c.if-word-ne1.false) c.if-c-n.false (operand_within _ _ _ c.requires.1.tables _ c.requires.0 _ _ c.requires.3) c.word-o.ensures.value)
