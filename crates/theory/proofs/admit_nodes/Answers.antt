use borrow.Author.Rules.{rules}
use native.Mathlib.Omega.{arith}
use native.Mathlib.Nat.{sub-zero}
use mathlib.Core.Path.{sym, ◌∙◌}
use Rattle.base.specs.Raised.{raised}
use Rattle.theory.specs.Admission.{nodes_admission}
use Rattle.theory.specs.Refusals.{first_stop, first_go, first_done, start_none, start_more, node_seen_lem, end_within}
use Rattle.theory.proofs.admit_nodes.Goals as goal

pub loop-k-init : goal.loop-k-init
unfolding nodes_admission
loop-k-init c = (search rules, search rules, search rules, start_none _, rw sub-zero)

pub returns-in_err-admit_node : goal.returns-in_err-admit_node
returns-in_err-admit_node c = raised _ _ c.from_residual.ensures.1 ∙ (first_stop _ _ _ _ c.loop-k.invariant.4 _ c.loop-k-test.true (node_seen_lem _ _ _ _ _ _ _ c.loop-k.invariant.3 c.view-node.ensures.value c.admit_node.ensures ∙ c.in_err-admit_node.was))

pub span_end-start-requires : goal.span_end-start-requires
span_end-start-requires c = omega (arith, end_within _ _ _ _ _ (sym c.admit_node.ensures ∙ c.in_ok-admit_node.was) c.loop-k.invariant.2, c.requires)

pub loop-k-preserved : goal.loop-k-preserved
loop-k-preserved c = (search rules, search rules, rw c.span_end-start.ensures (end_within _ _ _ _ _ (sym c.admit_node.ensures ∙ c.in_ok-admit_node.was) c.loop-k.invariant.2), start_more _ _ _ _ _ c.loop-k.invariant.3 c.view-node.ensures.value c.span_end-start.ensures, first_go _ _ _ _ c.loop-k.invariant.4 c.loop-k-test.true (node_seen_lem _ _ _ _ _ _ _ c.loop-k.invariant.3 c.view-node.ensures.value c.admit_node.ensures ∙ c.in_ok-admit_node.was))

pub returns : goal.returns
returns c = first_done _ _ _ _ c.loop-k.invariant.4 c.loop-k-test.false
