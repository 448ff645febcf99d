use Rattle.std.specs.Prelude.{Some, None}
use native.Mathlib.Omega.{arith}
use mathlib.Core.Path.{refl, sym, ◌∙◌}
use mathlib.Core.Bool.{false}
use Rattle.theory.specs.Node.{node_at}
use Rattle.theory.specs.declared.Node.TheVariants.{Implies}
use Rattle.kept.specs.Seen.{node_seen}
use Rattle.node_truth.specs.InWords.{atom_seen, implies_seen, span_seen}
use Rattle.complete.specs.Branches.{truth-stored}
use Rattle.complete.specs.Phases.{viewed}
use Rattle.complete.proofs.lay_truth.Goals as goal

pub returns-then-nodes-k-eq2 : goal.returns-then-nodes-k-eq2
unfolding node_seen implies_seen node_at
returns-then-nodes-k-eq2 c = let g = c.args in λ T. truth-stored (viewed g.counts g.nodes.now g.operands.now T) g.kept.now c.requires.4 g.k c.requires.1 (Implies c.word-left.result c.word-right.result) (rw (c.if-nodes-k-eq2.true, c.word-left.ensures.value, c.word-right.ensures.value)) _ c.implies_truth-seen.ensures _ _ c.lay.ensures

pub span_truth-seen-requires : goal.span_truth-seen-requires
span_truth-seen-requires c = (omega (arith, c.requires), (rw c.in-And.is at c.view.ensures.small).0, (rw c.in-And.is at c.view.ensures.small).1, omega (arith, c.requires))

pub span_truth-seen-requires-in-Or : goal.span_truth-seen-requires-in-Or
span_truth-seen-requires-in-Or c = (omega (arith, c.requires), (rw c.in-Or.is at c.view.ensures.small).0, (rw c.in-Or.is at c.view.ensures.small).1, omega (arith, c.requires))

pub returns-in-Atom : goal.returns-in-Atom
unfolding node_seen atom_seen
returns-in-Atom c = let g = c.args in λ T. truth-stored (viewed g.counts g.nodes.now g.operands.now T) g.kept.now c.requires.4 g.k c.requires.1 _ (sym c.in-Atom.is ∙ c.view.ensures.value) _ c.atom_truth-seen.ensures _ _ c.lay-in-Atom.ensures

pub returns-in-False : goal.returns-in-False
unfolding node_seen
returns-in-False c = let g = c.args in λ T. truth-stored (viewed g.counts g.nodes.now g.operands.now T) g.kept.now c.requires.4 g.k c.requires.1 _ (sym c.in-False.is ∙ c.view.ensures.value) (Some false) refl _ _ c.lay-in-False.ensures

pub returns-in-Implies : goal.returns-in-Implies
unfolding node_seen implies_seen
returns-in-Implies c = let g = c.args in λ T. truth-stored (viewed g.counts g.nodes.now g.operands.now T) g.kept.now c.requires.4 g.k c.requires.1 _ (sym c.in-Implies.is ∙ c.view.ensures.value) _ c.implies_truth-seen-in-Implies.ensures _ _ c.lay-in-Implies.ensures

pub returns-in-And : goal.returns-in-And
unfolding node_seen span_seen
returns-in-And c = let g = c.args in λ T. truth-stored (viewed g.counts g.nodes.now g.operands.now T) g.kept.now c.requires.4 g.k c.requires.1 _ (sym c.in-And.is ∙ c.view.ensures.value) _ c.span_truth-seen.ensures _ _ c.lay-in-And.ensures

pub returns-in-Or : goal.returns-in-Or
unfolding node_seen span_seen
returns-in-Or c = let g = c.args in λ T. truth-stored (viewed g.counts g.nodes.now g.operands.now T) g.kept.now c.requires.4 g.k c.requires.1 _ (sym c.in-Or.is ∙ c.view.ensures.value) _ c.span_truth-seen-in-Or.ensures _ _ c.lay-in-Or.ensures

pub returns-in-Unknown : goal.returns-in-Unknown
unfolding node_seen
returns-in-Unknown c = let g = c.args in λ T. truth-stored (viewed g.counts g.nodes.now g.operands.now T) g.kept.now c.requires.4 g.k c.requires.1 _ (sym c.in-Unknown.is ∙ c.view.ensures.value) None refl _ _ (refl, refl)
