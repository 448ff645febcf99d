use mathlib.Core.Path.{sym, ◌∙◌}
use native.Mathlib.Omega.{arith}
use borrow.Author.Tests.{eq-eqb, ne_eqb}
use Rattle.theory.specs.Formed.{right_below}
use Rattle.compile.specs.Head.{chosen}
use Rattle.compile.specs.ProducerLaws.{no_denial}
use Rattle.compile.proofs.choice_of.Goals as goal

pub returns-then-left-p : goal.returns-then-left-p
unfolding chosen
returns-then-left-p c = simp (sym c.view.ensures.value ∙ c.in-Implies.is, ne_eqb _ _ c.if-left-p.true)

pub is_false-requires : goal.is_false-requires
is_false-requires c = omega (arith, c.requires.2.nodes_long, c.requires.1, right_below _ _ _ c.requires.2 _ c.requires.1 _ _ (sym c.view.ensures.value ∙ c.in-Implies.is))

pub returns-then-is_false : goal.returns-then-is_false
unfolding chosen
returns-then-is_false c = simp (sym c.view.ensures.value ∙ c.in-Implies.is, eq-eqb _ _ c.if-left-p.false, sym c.is_false.ensures ∙ c.if-is_false.true) c.atom_at.ensures

pub returns-else-is_false : goal.returns-else-is_false
unfolding chosen
returns-else-is_false c = simp (sym c.view.ensures.value ∙ c.in-Implies.is, eq-eqb _ _ c.if-left-p.false, sym c.is_false.ensures ∙ c.if-is_false.false)

pub returns-in_default : goal.returns-in_default
unfolding chosen
returns-in_default c = rw (no_denial c.args.nodes.now c.args.p _ (λ l r e. c.in_default.not-Implies l r (c.view.ensures.value ∙ e)))
