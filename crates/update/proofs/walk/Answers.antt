use Rattle.std.specs.Prelude.{Ok, Some}
use Rattle.kept_laws.specs.Given.{bare}
use Rattle.update.specs.WalkLaws.{walk_begins, walk_turns, walk_stands, walk_breaks}
use Rattle.update.specs.Results.{lent}
use Rattle.kept.specs.Layout.{of_words}
use mathlib.Core.Path.{◌≡◌, refl, ap, ◌∙◌}
use native.Mathlib.Omega.{arith}
use Rattle.update.proofs.walk.Goals as goal

pub loop-kept-init : goal.loop-kept-init
loop-kept-init c = (omega arith, refl, λ T. walk_begins (lent c.args.counts c.args.made c.args.nodes.now c.args.operands.now c.args.roots.now c.args.producers.now c.args.readers.now T) c.args.gone c.args.kept.now c.requires.0.kept_long)

pub step-requires : goal.step-requires
step-requires c = rw c.loop-kept.invariant.1 c.requires.0

pub judge-requires : goal.judge-requires
judge-requires c = (c.requires.0.limited, c.requires.1, omega (arith, c.kept-1, c.loop-kept.invariant.1, c.requires.0.kept_long))

pub returns-in-Ok-None : goal.returns-in-Ok-None
returns-in-Ok-None c = λ T. walk_stands (lent c.args.counts c.args.made c.args.nodes.now c.args.operands.now c.args.roots.now c.args.producers.now c.args.readers.now T) c.args.gone c.args.kept.now c.requires.0.kept_long c.loop-kept.n c.loop-kept.kept (c.loop-kept.invariant.2 T) _ _ (c.step.ensures (lent c.args.counts c.args.made c.args.nodes.now c.args.operands.now c.args.roots.now c.args.producers.now c.args.readers.now T)) (c.in-Ok-None.is ∙ ap Ok c.in-Ok-None.field-0-is) c.told.result (rw (c.judge.ensures (lent c.args.counts c.args.made c.args.nodes.now c.args.operands.now c.args.roots.now c.args.producers.now c.args.readers.now T)) at (c.told.ensures (of_words (lent c.args.counts c.args.made c.args.nodes.now c.args.operands.now c.args.roots.now c.args.producers.now c.args.readers.now T) c.step.new.kept)))

pub overflow_add-n : goal.overflow_add-n
overflow_add-n c = let t = walk_turns (lent c.args.counts c.args.made c.args.nodes.now c.args.operands.now c.args.roots.now c.args.producers.now c.args.readers.now (bare c.args.counts)) c.args.gone c.args.kept.now c.requires.0.kept_long c.loop-kept.n c.loop-kept.kept (c.loop-kept.invariant.2 (bare c.args.counts)) _ _ (c.step.ensures (lent c.args.counts c.args.made c.args.nodes.now c.args.operands.now c.args.roots.now c.args.producers.now c.args.readers.now (bare c.args.counts))) _ (c.in-Ok-Some.is ∙ ap Ok c.in-Ok-Some.field-0-is) in omega (arith, t.node, c.loop-kept.invariant.0, c.requires.0.limited.nodes)

pub loop-kept-smaller : goal.loop-kept-smaller
loop-kept-smaller c = let t = walk_turns (lent c.args.counts c.args.made c.args.nodes.now c.args.operands.now c.args.roots.now c.args.producers.now c.args.readers.now (bare c.args.counts)) c.args.gone c.args.kept.now c.requires.0.kept_long c.loop-kept.n c.loop-kept.kept (c.loop-kept.invariant.2 (bare c.args.counts)) _ _ (c.step.ensures (lent c.args.counts c.args.made c.args.nodes.now c.args.operands.now c.args.roots.now c.args.producers.now c.args.readers.now (bare c.args.counts))) _ (c.in-Ok-Some.is ∙ ap Ok c.in-Ok-Some.field-0-is) in omega (arith, t.node, t.above)

pub loop-kept-preserved : goal.loop-kept-preserved
loop-kept-preserved c =
    let e : c.step.result ≡ Ok (Some _) = c.in-Ok-Some.is ∙ ap Ok c.in-Ok-Some.field-0-is in
    (let t = walk_turns (lent c.args.counts c.args.made c.args.nodes.now c.args.operands.now c.args.roots.now c.args.producers.now c.args.readers.now (bare c.args.counts)) c.args.gone c.args.kept.now c.requires.0.kept_long c.loop-kept.n c.loop-kept.kept (c.loop-kept.invariant.2 (bare c.args.counts)) _ _ (c.step.ensures (lent c.args.counts c.args.made c.args.nodes.now c.args.operands.now c.args.roots.now c.args.producers.now c.args.readers.now (bare c.args.counts))) _ e in omega (arith, t.above, c.loop-kept.invariant.0), c.step.auto.kept ∙ c.loop-kept.invariant.1, λ T. (walk_turns (lent c.args.counts c.args.made c.args.nodes.now c.args.operands.now c.args.roots.now c.args.producers.now c.args.readers.now T) c.args.gone c.args.kept.now c.requires.0.kept_long c.loop-kept.n c.loop-kept.kept (c.loop-kept.invariant.2 T) _ _ (c.step.ensures (lent c.args.counts c.args.made c.args.nodes.now c.args.operands.now c.args.roots.now c.args.producers.now c.args.readers.now T)) _ e).walking)

pub returns-in-Err : goal.returns-in-Err
returns-in-Err c = λ T. walk_breaks (lent c.args.counts c.args.made c.args.nodes.now c.args.operands.now c.args.roots.now c.args.producers.now c.args.readers.now T) c.args.gone c.args.kept.now c.requires.0.kept_long c.loop-kept.n c.loop-kept.kept (c.loop-kept.invariant.2 T) _ _ (c.step.ensures (lent c.args.counts c.args.made c.args.nodes.now c.args.operands.now c.args.roots.now c.args.producers.now c.args.readers.now T)) _ c.in-Err.is
