use borrow.Author.Rules.{rules}
use native.Mathlib.Omega.{arith}
use native.Mathlib.Nat.{sub-zero}
use mathlib.Core.Path.{sym, ◌∙◌}
use Rattle.theory.specs.Refusals.{first_stop, first_go, first_done}
use Rattle.compile.specs.Producers.{roots_supported}
use Rattle.base.specs.Raised.{raised}
use Rattle.compile.specs.ProducersLaws.{root_seen}
use Rattle.compile.proofs.roots_supported.Goals as goal

pub loop-i-init : goal.loop-i-init
unfolding roots_supported
loop-i-init c = (search rules, search rules, rw sub-zero)

pub word-root-requires : goal.word-root-requires
word-root-requires c = omega (arith, c.loop-i.invariant.1, c.requires.2.roots_long)

pub produce-requires : goal.produce-requires
produce-requires c = (rw c.word-root.ensures.value (c.requires.2.in_nodes _ (omega (arith, c.loop-i.invariant.1))), c.requires.0, c.requires.1)

pub returns-in_err-root_supported : goal.returns-in_err-root_supported
returns-in_err-root_supported c = raised _ _ c.from_residual.ensures.1 ∙ first_stop _ _ _ _ c.loop-i.invariant.2 _ c.loop-i-test.true (root_seen _ _ _ _ _ _ _ _ c.word-root.ensures.value c.produce.ensures (sym c.root_supported.ensures ∙ c.in_err-root_supported.was))

pub loop-i-preserved : goal.loop-i-preserved
loop-i-preserved c = (search rules, search rules, first_go _ _ _ _ c.loop-i.invariant.2 c.loop-i-test.true (root_seen _ _ _ _ _ _ _ _ c.word-root.ensures.value c.produce.ensures (sym c.root_supported.ensures ∙ c.in_ok-root_supported.was)))

pub returns : goal.returns
returns c = first_done _ _ _ _ c.loop-i.invariant.2 c.loop-i-test.false
