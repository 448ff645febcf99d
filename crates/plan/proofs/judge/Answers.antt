use borrow.Author.Rules.{rules}
use mathlib.Core.Path.{◌≡◌}
use Rattle.std.specs.Prelude.{Ok, Err, MatchResult}
use Rattle.theory.specs.declared.Refusal.TheVariants.{PositiveCycle}
use native.Mathlib.Omega.{arith}
use Rattle.base.specs.Raised.{raised}
use Rattle.plan.specs.Prepared.{prepared_classed}
use Rattle.plan.specs.JudgedIn.{unsupported, ready_after, empty_after, judged_derived, judged_proposed}
use Rattle.plan.proofs.judge.Goals as goal

pub returns-in_err-prepare : goal.returns-in_err-prepare
returns-in_err-prepare c = rw (raised _ _ c.from_residual.ensures.1) (unsupported c.args.counts c.args.nodes.now c.args.operands.now c.args.roots.now _ _ _ c.prepare.ensures.0 c.in_err-prepare.was _)

pub rank_check-requires : goal.rank_check-requires
rank_check-requires c = let r = ready_after c.args.counts c.args.nodes.now c.args.operands.now c.args.roots.now c.args.area.now c.prepare.new.area _ c.prepare.ensures.0 c.in_ok-prepare.was c.prepare.ensures.1 c.requires.0 in (omega arith, omega (arith, r.long), r.tables, r.listed, prepared_classed _ _ _ _ _ c.prepare.ensures.1)

pub derive_ranks-ranked-requires : goal.derive_ranks-ranked-requires
derive_ranks-ranked-requires c = (ready_after c.args.counts c.args.nodes.now c.args.operands.now c.args.roots.now c.args.area.now c.prepare.new.area _ c.prepare.ensures.0 c.in_ok-prepare.was c.prepare.ensures.1 c.requires.0, empty_after c.args.counts c.args.nodes.now c.args.operands.now c.args.roots.now c.args.area.now c.prepare.new.area _ c.prepare.ensures.0 c.in_ok-prepare.was c.prepare.ensures.1 c.requires.1)

pub returns-in-Some : goal.returns-in-Some
returns-in-Some c = rw c.in-Some.is (judged_proposed c.args.counts c.args.nodes.now c.args.operands.now c.args.roots.now c.args.area.now c.prepare.new.area _ c.prepare.ensures.0 c.in_ok-prepare.was c.prepare.ensures.1 _ c.rank_check.new.area _ c.rank_check.ensures.value c.rank_check.ensures.area_unchanged)

pub returns-in-None : goal.returns-in-None
returns-in-None c =
    let m : MatchResult c.derive_ranks-ranked.result (λ u. c.map_err.result ≡ Ok u) (λ e. c.map_err.result ≡ Err (PositiveCycle e.atom)) = search rules in
    rw c.in-None.is (judged_derived c.args.counts c.args.nodes.now c.args.operands.now c.args.roots.now c.args.area.now c.prepare.new.area _ c.prepare.ensures.0 c.in_ok-prepare.was c.prepare.ensures.1 c.derive_ranks-ranked.new.area c.derive_ranks-ranked.result _ c.derive_ranks-ranked.ensures.area_after c.derive_ranks-ranked.ensures.area_unchanged m)
