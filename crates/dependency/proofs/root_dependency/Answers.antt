use native.Mathlib.Omega.{arith}
use mathlib.Core.Path.{◌≡◌, ap, ◌∙◌}
use Prim.Native.Nat.{◌-◌, ◌<◌, ◌≤◌}
use Rattle.std.specs.Prelude.{Some, None, Ok}
use Rattle.ranks.specs.Dependency.{only}
use Rattle.dependency.specs.CursorLaws.{next_root, root_bounded, edges_nothing, edges_bare, edges_body, not-nothing, not_refused, class_yes, class_no}
use Rattle.dependency.proofs.root_dependency.Goals as goal

pub returns-then-p-eq0 : goal.returns-then-p-eq0
returns-then-p-eq0 c =
    let e : c.produce.result ≡ Ok (Some c.in-Ok-Some.p) = c.in-Ok-Some.is ∙ ap Ok c.in-Ok-Some.field-0-is in
    rw (edges_bare c.args.counts c.args.nodes.now c.args.operands.now c.args.classes.now c.args.roots.now c.args.c.root _ _ c.word-root.ensures.value c.produce.ensures _ e c.if-p-eq0.true) at (next_root c.args.counts c.args.nodes.now c.args.operands.now c.args.classes.now c.args.roots.now c.args.c c.requires.3 c.requires.0 c.requires.1)

pub word-requires : goal.word-requires
word-requires c =
    let e : c.produce.result ≡ Ok (Some c.in-Ok-Some.p) = c.in-Ok-Some.is ∙ ap Ok c.in-Ok-Some.field-0-is in
    omega (arith, (root_bounded _ _ _ _ _ c.requires.2 _ _ _ c.requires.1 c.word-root.ensures.value c.produce.ensures _ e).1, c.requires.2.classes_long)

pub overflow_add-result : goal.overflow_add-result
overflow_add-result c =
    let e : c.produce.result ≡ Ok (Some c.in-Ok-Some.p) = c.in-Ok-Some.is ∙ ap Ok c.in-Ok-Some.field-0-is in
    omega (arith, (root_bounded _ _ _ _ _ c.requires.2 _ _ _ c.requires.1 c.word-root.ensures.value c.produce.ensures _ e).1, c.requires.2.limited)

pub returns-then-word-eq1 : goal.returns-then-word-eq1
unfolding only
returns-then-word-eq1 c =
    let e : c.produce.result ≡ Ok (Some c.in-Ok-Some.p) = c.in-Ok-Some.is ∙ ap Ok c.in-Ok-Some.field-0-is in
    let b : (c.in-Ok-Some.p.head < c.args.counts.atoms) × (c.in-Ok-Some.p.body ≤ c.args.counts.nodes) = root_bounded _ _ _ _ _ c.requires.2 _ _ _ c.requires.1 c.word-root.ensures.value c.produce.ensures _ e in (
      rw (edges_body c.args.counts c.args.nodes.now c.args.operands.now c.args.classes.now c.args.roots.now c.args.c.root _ _ c.word-root.ensures.value c.produce.ensures _ (c.in-Ok-Some.p.body - 1) e (omega (arith, c.if-p-eq0.false)), class_yes c.args.classes.now (c.in-Ok-Some.p.body - 1) _ c.word.ensures.value c.if-word-eq1.true) at (next_root c.args.counts c.args.nodes.now c.args.operands.now c.args.classes.now c.args.roots.now c.args.c c.requires.3 c.requires.0 c.requires.1),
      omega (arith, b.1, c.if-p-eq0.false),
      omega (arith, b.0),
    )

pub returns-else-word-eq1 : goal.returns-else-word-eq1
unfolding only
returns-else-word-eq1 c =
    let e : c.produce.result ≡ Ok (Some c.in-Ok-Some.p) = c.in-Ok-Some.is ∙ ap Ok c.in-Ok-Some.field-0-is in
    rw (edges_body c.args.counts c.args.nodes.now c.args.operands.now c.args.classes.now c.args.roots.now c.args.c.root _ _ c.word-root.ensures.value c.produce.ensures _ (c.in-Ok-Some.p.body - 1) e (omega (arith, c.if-p-eq0.false)), class_no c.args.classes.now (c.in-Ok-Some.p.body - 1) _ c.word.ensures.value c.if-word-eq1.false) at (next_root c.args.counts c.args.nodes.now c.args.operands.now c.args.classes.now c.args.roots.now c.args.c c.requires.3 c.requires.0 c.requires.1)

pub returns-in-Ok-None : goal.returns-in-Ok-None
returns-in-Ok-None c =
    let e : c.produce.result ≡ Ok None = c.in-Ok-None.is ∙ ap Ok c.in-Ok-None.field-0-is in
    rw (edges_nothing c.args.counts c.args.nodes.now c.args.operands.now c.args.classes.now c.args.roots.now c.args.c.root _ _ c.word-root.ensures.value c.produce.ensures (rw e not-nothing)) at (next_root c.args.counts c.args.nodes.now c.args.operands.now c.args.classes.now c.args.roots.now c.args.c c.requires.3 c.requires.0 c.requires.1)

pub returns-in-Err : goal.returns-in-Err
returns-in-Err c = rw (edges_nothing c.args.counts c.args.nodes.now c.args.operands.now c.args.classes.now c.args.roots.now c.args.c.root _ _ c.word-root.ensures.value c.produce.ensures (rw c.in-Err.is not_refused)) at (next_root c.args.counts c.args.nodes.now c.args.operands.now c.args.classes.now c.args.roots.now c.args.c c.requires.3 c.requires.0 c.requires.1)
