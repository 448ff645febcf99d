use Rattle.base.specs.Raised.{raised}
use mathlib.Core.Path.{sym, ◌∙◌}
use Rattle.theory.specs.LimitsLaws.{within_limits}
use Rattle.tests.specs.TestsLaws.{limit_refused, short_refused, candidate_long, candidate_foreign, plan_foreign, stray_left}
use Rattle.tests.proofs.tests.Goals as goal

pub returns-in_err-limits : goal.returns-in_err-limits
returns-in_err-limits c = λ T s. rw (raised _ _ c.from_residual.ensures.1) (limit_refused c.args.counts c.args.plan c.args.stamp c.args.candidate.now c.args.l c.requires _ (sym c.limits.ensures ∙ c.in_err-limits.was) T s)

pub short_buffer-requires : goal.short_buffer-requires
short_buffer-requires c = within_limits _ (sym c.limits.ensures ∙ c.in_ok-limits.was)

pub returns-in_err-short_buffer : goal.returns-in_err-short_buffer
returns-in_err-short_buffer c = λ T s. rw (raised _ _ c.from_residual-in_err-short_buffer.ensures.1) (short_refused c.args.counts c.args.plan c.args.stamp c.args.candidate.now c.args.l c.requires (sym c.limits.ensures ∙ c.in_ok-limits.was) _ (sym c.short_buffer.ensures ∙ c.in_err-short_buffer.was) T s)

pub returns-then-stamp-counts : goal.returns-then-stamp-counts
returns-then-stamp-counts c = candidate_foreign c.args.counts c.args.plan c.args.stamp c.args.candidate.now c.args.l c.requires (sym c.limits.ensures ∙ c.in_ok-limits.was) (sym c.short_buffer.ensures ∙ c.in_ok-short_buffer.was) c.if-stamp-counts.true

pub returns-then-plan-counts : goal.returns-then-plan-counts
returns-then-plan-counts c = plan_foreign c.args.counts c.args.plan c.args.stamp c.args.candidate.now c.args.l c.requires (sym c.limits.ensures ∙ c.in_ok-limits.was) (sym c.short_buffer.ensures ∙ c.in_ok-short_buffer.was) c.if-stamp-counts.false c.if-plan-counts.true

pub stray_bit-requires : goal.stray_bit-requires
stray_bit-requires c = (within_limits _ (sym c.limits.ensures ∙ c.in_ok-limits.was), candidate_long c.args.counts c.args.plan c.args.stamp c.args.candidate.now c.args.l c.requires (sym c.limits.ensures ∙ c.in_ok-limits.was) (sym c.short_buffer.ensures ∙ c.in_ok-short_buffer.was))

pub returns : goal.returns
returns c = stray_left c.args.counts c.args.plan c.args.stamp c.args.candidate.now c.args.l c.requires (sym c.limits.ensures ∙ c.in_ok-limits.was) (sym c.short_buffer.ensures ∙ c.in_ok-short_buffer.was) c.if-stamp-counts.false c.if-plan-counts.false _ c.stray_bit.ensures
