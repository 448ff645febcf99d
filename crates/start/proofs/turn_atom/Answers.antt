use Rattle.base.specs.Raised.{raised}
use native.Mathlib.Omega.{arith}
use mathlib.Core.Path.{sym, ◌∙◌}
use Rattle.readers.specs.LaidLaws.{in_order_true, in_order_more}
use Rattle.kept_laws.specs.Given.{listed}
use Rattle.start.specs.AtomLaws.{turn_none, turn_disordered, turn_done}
use Rattle.start.proofs.turn_atom.Goals as goal

pub returns-in_err-presence : goal.returns-in_err-presence
returns-in_err-presence c = let g = c.args in λ T J same. rw (raised _ _ c.from_residual.ensures.1) (turn_none (listed g.counts g.readers.now T) g.a J g.x same g.kept.now c.requires.2 _ _ (c.presence.ensures (listed g.counts g.readers.now T)) c.in_err-presence.was)

pub in_order-requires : goal.in_order-requires
in_order-requires c = omega (arith, c.requires.1, c.requires.3)

pub returns-then-not-in_order : goal.returns-then-not-in_order
returns-then-not-in_order c = let g = c.args in λ T J same. turn_disordered (listed g.counts g.readers.now T) g.a J g.x same g.kept.now c.requires.2 _ _ (c.presence.ensures (listed g.counts g.readers.now T)) c.in_ok-presence.was (sym (rw c.table_words-listed.ensures at c.in_order.ensures) ∙ c.if-not-in_order.true)

pub atom_nodes_of-requires : goal.atom_nodes_of-requires
atom_nodes_of-requires c = (omega (arith, c.requires.1, c.requires.3), in_order_more _ _ _ _ c.requires.1 (in_order_true _ _ _ (sym (rw c.table_words-listed.ensures at c.in_order.ensures) ∙ c.if-not-in_order.false)))

pub returns : goal.returns
returns c = let g = c.args in λ T J same. turn_done (listed g.counts g.readers.now T) g.a J g.x same g.kept.now c.requires.2 _ _ (c.presence.ensures (listed g.counts g.readers.now T)) c.in_ok-presence.was (sym (rw c.table_words-listed.ensures at c.in_order.ensures) ∙ c.if-not-in_order.false) _ c.atom_nodes_of.ensures _ _ (c.enter_all.ensures (listed g.counts g.readers.now T))
