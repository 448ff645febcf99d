use native.Mathlib.Omega.{arith}
use mathlib.Core.Path.{◌∙◌, ap}
use Rattle.std.specs.Prelude.{Ok}
use Rattle.base.specs.Raised.{raised}
use Rattle.kept.specs.Layout.{of_words}
use Rattle.kept_laws.specs.Given.{sized}
use Rattle.verdict.specs.Told.{judged_of}
use Rattle.verdict.specs.ToldLaws.{told_below, not_model_lem, roots_astray, residual_of_lem, missing_astray, stable_of}
use Rattle.verdict.proofs.judge.Goals as goal

pub word-requires : goal.word-requires
word-requires c =
    let below = told_below c.args.counts c.args.counts.roots _ (λ T. (of_words (sized c.args.counts T) c.args.kept.now).false_roots) _ c.first_false.ensures (c.in_ok-p.was ∙ ap Ok c.in-Some.is) in
    omega (arith, below, c.requires.1)

pub returns-in-Some : goal.returns-in-Some
returns-in-Some c =
    let w = not_model_lem c.args.counts c.args.roots.now c.args.kept.now _ c.first_false.ensures _ _ (c.in_ok-p.was ∙ ap Ok c.in-Some.is) c.word.ensures.value in
    λ T. c.false_root.ensures ∙ w T

pub returns-in_err-p : goal.returns-in_err-p
returns-in_err-p c = λ T. ap judged_of (raised _ _ c.from_residual.ensures.1) ∙ roots_astray c.args.counts c.args.roots.now c.args.kept.now _ c.first_false.ensures _ c.in_err-p.was T

pub returns-in_err-a : goal.returns-in_err-a
returns-in_err-a c = λ T. ap judged_of (raised _ _ c.from_residual-in_err-a.ensures.1) ∙ missing_astray c.args.counts c.args.roots.now c.args.kept.now _ c.first_false.ensures (c.in_ok-p.was ∙ ap Ok c.in_default.is) _ c.first_missing.ensures _ c.in_err-a.was T

pub returns-in-Some-2 : goal.returns-in-Some-2
returns-in-Some-2 c = residual_of_lem c.args.counts c.args.roots.now c.args.kept.now _ c.first_false.ensures (c.in_ok-p.was ∙ ap Ok c.in_default.is) _ c.first_missing.ensures _ (c.in_ok-a.was ∙ ap Ok c.in-Some-2.is)

pub returns-in-None : goal.returns-in-None
returns-in-None c = stable_of c.args.counts c.args.roots.now c.args.kept.now _ c.first_false.ensures (c.in_ok-p.was ∙ ap Ok c.in_default.is) _ c.first_missing.ensures (c.in_ok-a.was ∙ ap Ok c.in-None.is)
