use borrow.Author.Rules.{rules}
use Rattle.complete.specs.Search.{next_found, next_passed, next-end}
use mathlib.Core.Path.{◌≡◌, refl, sym, ◌∙◌}
use native.Mathlib.Omega.{arith}
use Rattle.complete.proofs.next_single.Goals as goal

pub loop-a-init : goal.loop-a-init
loop-a-init c = (search rules, refl)

pub returns-then-lacks : goal.returns-then-lacks
returns-then-lacks c = sym (c.loop-a.invariant.1 ∙ next_found c.args.counts c.args.kept.now c.loop-a.a c.loop-a-test.true (sym c.lacks.ensures ∙ c.if-lacks.true))

pub loop-a-preserved : goal.loop-a-preserved
loop-a-preserved c = (search rules, c.loop-a.invariant.1 ∙ next_passed c.args.counts c.args.kept.now c.loop-a.a c.loop-a-test.true (sym c.lacks.ensures ∙ c.if-lacks.false))

pub returns : goal.returns
returns c =
    let e : c.loop-a.a ≡ c.args.counts.atoms = omega (arith, c.loop-a.invariant.0, c.loop-a-test.false) in
    rw e at (sym (c.loop-a.invariant.1 ∙ next-end c.args.counts c.args.kept.now c.loop-a.a c.loop-a-test.false))
