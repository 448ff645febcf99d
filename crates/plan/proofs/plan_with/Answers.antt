use borrow.Author.Rules.{rules}
use mathlib.Core.Path.{◌≡◌}
use lib.ListN.{length}
use Rattle.std.specs.Prelude.{replicate}
use Rattle.base.specs.Raised.{raised}
use Rattle.plan.specs.Called.{entry_refused, is_entered, entered_outcome}
use Rattle.plan.proofs.plan_with.Goals as goal

pub returns-in_err-enter : goal.returns-in_err-enter
returns-in_err-enter c =
    let z : c.fill.new.self ≡ replicate (length c.args.work.now) 0 = search rules in
    rw (z, raised _ _ c.from_residual.ensures.1) (entry_refused c.args.counts c.args.nodes.now c.args.operands.now c.args.roots.now c.args.producers.now c.args.ranks.now c.args.readers.now c.args.work.now _ (rw c.fill.auto.self at c.enter.ensures) _ _ c.in_err-enter.was)

pub plan_entered-planned-requires : goal.plan_entered-planned-requires
plan_entered-planned-requires c =
    let z : c.fill.new.self ≡ replicate (length c.args.work.now) 0 = search rules in
    rw z (is_entered c.args.counts c.args.nodes.now c.args.operands.now c.args.roots.now c.args.producers.now c.args.ranks.now c.args.readers.now c.args.work.now _ (rw c.fill.auto.self at c.enter.ensures) c.in_ok-enter.was)

pub returns : goal.returns
returns c =
    let z : c.fill.new.self ≡ replicate (length c.args.work.now) 0 = search rules in
    let y : c.fill-2.new.self ≡ replicate (length c.fill.new.self) 0 = search rules in
    entered_outcome c.args.counts c.args.nodes.now c.args.operands.now c.args.roots.now c.args.producers.now c.args.ranks.now c.args.readers.now c.args.work.now _ (rw c.fill.auto.self at c.enter.ensures) c.in_ok-enter.was _ _ (rw (y, z) (rw z at c.plan_entered-planned.ensures))
