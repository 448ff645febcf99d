use mathlib.Core.Path.{sym, ◌∙◌}
use native.Mathlib.Omega.{arith}
use borrow.Author.Tests.{eq-eqb, ne_eqb}
use Rattle.theory.specs.Formed.{or_indexed}
use Rattle.compile.specs.Head.{head_of, seen}
use Rattle.compile.specs.ProducerLaws.{no_head}
use Rattle.compile.proofs.head_of.Goals as goal

pub returns-then-c-ne2 : goal.returns-then-c-ne2
unfolding head_of seen
returns-then-c-ne2 c = simp (sym c.view.ensures.value ∙ c.in-Or.is, ne_eqb _ _ c.if-c-ne2.true)

pub word-p-requires : goal.word-p-requires
word-p-requires c = omega (arith, (or_indexed _ _ _ c.requires.1 _ c.requires.0 c.args.counts.nodes _ _ (omega (arith, c.requires.0)) (sym c.view.ensures.value ∙ c.in-Or.is)).within)

pub overflow_add-s : goal.overflow_add-s
overflow_add-s c = omega (arith, (or_indexed _ _ _ c.requires.1 _ c.requires.0 c.args.counts.nodes _ _ (omega (arith, c.requires.0)) (sym c.view.ensures.value ∙ c.in-Or.is)).within)

pub word-q-requires : goal.word-q-requires
word-q-requires c = omega (arith, (or_indexed _ _ _ c.requires.1 _ c.requires.0 c.args.counts.nodes _ _ (omega (arith, c.requires.0)) (sym c.view.ensures.value ∙ c.in-Or.is)).within)

pub choice_head-requires : goal.choice_head-requires
choice_head-requires c = (rw c.word-p.ensures.value ((or_indexed _ _ _ c.requires.1 _ c.requires.0 c.args.counts.nodes _ _ (omega (arith, c.requires.0)) (sym c.view.ensures.value ∙ c.in-Or.is)).lower _ (omega arith) (omega arith)), rw c.word-q.ensures.value ((or_indexed _ _ _ c.requires.1 _ c.requires.0 c.args.counts.nodes _ _ (omega (arith, c.requires.0)) (sym c.view.ensures.value ∙ c.in-Or.is)).lower _ (omega arith) (omega arith)), c.requires.1)

pub returns-in-Atom : goal.returns-in-Atom
unfolding head_of seen
returns-in-Atom c = simp (sym c.view.ensures.value ∙ c.in-Atom.is)

pub returns-else-c-ne2 : goal.returns-else-c-ne2
unfolding head_of seen
returns-else-c-ne2 c = simp (sym c.view.ensures.value ∙ c.in-Or.is, eq-eqb _ _ c.if-c-ne2.false, ← c.word-p.ensures.value, ← c.word-q.ensures.value) c.choice_head.ensures

pub returns-in_default : goal.returns-in_default
returns-in_default c = rw (sym c.view.ensures.value) (no_head _ _ _ c.in_default.not-Atom c.in_default.not-Or)
