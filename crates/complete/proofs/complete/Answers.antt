use Rattle.base.specs.Raised.{raised}
use Rattle.complete.specs.Sequel.{of_sized, no_support, no_missing, no_roots, complete_done, complete_stop}
use Rattle.kept_laws.specs.Given.{planned}
use mathlib.Core.Path.{ap, ◌∙◌}
use native.Mathlib.Omega.{arith}
use Rattle.complete.proofs.complete.Goals as goal

pub summarize-requires : goal.summarize-requires
summarize-requires c = record { limited = (c.requires.0, c.requires.1, c.requires.5, c.requires.6, omega (arith, c.lay_truths.auto, c.reset.auto, c.requires.7)); no_support = (λ T. ap (λ d. d.support) (of_sized c.args.counts T (planned c.args.counts c.args.made c.args.nodes.now c.args.operands.now c.args.roots.now c.args.producers.now T) c.lay_truths.new.kept) ∙ no_support (planned c.args.counts c.args.made c.args.nodes.now c.args.operands.now c.args.roots.now c.args.producers.now T) c.args.kept.now c.requires.7 c.args.candidate.now c.requires.8 _ (c.reset.ensures (planned c.args.counts c.args.made c.args.nodes.now c.args.operands.now c.args.roots.now c.args.producers.now T)) _ _ (c.lay_truths.ensures (planned c.args.counts c.args.made c.args.nodes.now c.args.operands.now c.args.roots.now c.args.producers.now T)) c.in_ok-lay_truths.was, λ T. ap (λ d. d.missing) (of_sized c.args.counts T (planned c.args.counts c.args.made c.args.nodes.now c.args.operands.now c.args.roots.now c.args.producers.now T) c.lay_truths.new.kept) ∙ no_missing (planned c.args.counts c.args.made c.args.nodes.now c.args.operands.now c.args.roots.now c.args.producers.now T) c.args.kept.now c.requires.7 c.args.candidate.now c.requires.8 _ (c.reset.ensures (planned c.args.counts c.args.made c.args.nodes.now c.args.operands.now c.args.roots.now c.args.producers.now T)) _ _ (c.lay_truths.ensures (planned c.args.counts c.args.made c.args.nodes.now c.args.operands.now c.args.roots.now c.args.producers.now T)) c.in_ok-lay_truths.was, λ T. ap (λ d. d.false_roots) (of_sized c.args.counts T (planned c.args.counts c.args.made c.args.nodes.now c.args.operands.now c.args.roots.now c.args.producers.now T) c.lay_truths.new.kept) ∙ no_roots (planned c.args.counts c.args.made c.args.nodes.now c.args.operands.now c.args.roots.now c.args.producers.now T) c.args.kept.now c.requires.7 c.args.candidate.now c.requires.8 _ (c.reset.ensures (planned c.args.counts c.args.made c.args.nodes.now c.args.operands.now c.args.roots.now c.args.producers.now T)) _ _ (c.lay_truths.ensures (planned c.args.counts c.args.made c.args.nodes.now c.args.operands.now c.args.roots.now c.args.producers.now T)) c.in_ok-lay_truths.was) }

pub returns : goal.returns
returns c = λ T. complete_done (planned c.args.counts c.args.made c.args.nodes.now c.args.operands.now c.args.roots.now c.args.producers.now T) c.args.kept.now c.requires.7 c.args.candidate.now c.requires.8 _ (c.reset.ensures (planned c.args.counts c.args.made c.args.nodes.now c.args.operands.now c.args.roots.now c.args.producers.now T)) _ _ (c.lay_truths.ensures (planned c.args.counts c.args.made c.args.nodes.now c.args.operands.now c.args.roots.now c.args.producers.now T)) c.in_ok-lay_truths.was _ _ (c.summarize.ensures (planned c.args.counts c.args.made c.args.nodes.now c.args.operands.now c.args.roots.now c.args.producers.now T))

pub returns-in_err-lay_truths : goal.returns-in_err-lay_truths
returns-in_err-lay_truths c = λ T. rw (raised _ _ c.from_residual.ensures.1) (complete_stop (planned c.args.counts c.args.made c.args.nodes.now c.args.operands.now c.args.roots.now c.args.producers.now T) c.args.kept.now c.requires.7 c.args.candidate.now c.requires.8 _ (c.reset.ensures (planned c.args.counts c.args.made c.args.nodes.now c.args.operands.now c.args.roots.now c.args.producers.now T)) _ _ (c.lay_truths.ensures (planned c.args.counts c.args.made c.args.nodes.now c.args.operands.now c.args.roots.now c.args.producers.now T)) _ c.in_err-lay_truths.was)
