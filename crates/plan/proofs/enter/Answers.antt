use native.Mathlib.Omega.{arith}
use mathlib.Core.Path.{sym, ◌∙◌}
use Rattle.base.specs.Raised.{raised}
use Rattle.plan.specs.Buffers.{long_enough}
use Rattle.theory.specs.LimitsLaws.{within_limits}
use Rattle.plan.proofs.enter.Goals as goal

pub returns-in_err-limits : goal.returns-in_err-limits
returns-in_err-limits c = raised _ _ c.from_residual.ensures.1 ∙ rw (sym c.limits.ensures ∙ c.in_err-limits.was)

pub short_buffer-requires : goal.short_buffer-requires
short_buffer-requires c = within_limits _ (sym c.limits.ensures ∙ c.in_ok-limits.was)

pub returns-in_err-short_buffer : goal.returns-in_err-short_buffer
returns-in_err-short_buffer c = raised _ _ c.from_residual-in_err-short_buffer.ensures.1 ∙ rw (sym c.limits.ensures ∙ c.in_ok-limits.was, sym c.short_buffer.ensures ∙ c.in_err-short_buffer.was)

pub admit-requires : goal.admit-requires
admit-requires c = let e = long_enough _ _ (sym c.short_buffer.ensures ∙ c.in_ok-short_buffer.was) in (within_limits _ (sym c.limits.ensures ∙ c.in_ok-limits.was), record { nodes_long = omega (arith, e.nodes_long, c.requires.0); operands_long = omega (arith, e.operands_long, c.requires.1); roots_long = omega (arith, e.roots_long, c.requires.2) })

pub returns : goal.returns
returns c = rw (sym c.limits.ensures ∙ c.in_ok-limits.was, sym c.short_buffer.ensures ∙ c.in_ok-short_buffer.was) c.admit.ensures
