use Rattle.base.specs.Raised.{raised}
use Rattle.kept_laws.specs.Given.{sized}
use Rattle.update.specs.WalkLaws.{not_stray, update_stray, update_fault, update_walk}
use Rattle.update.specs.Results.{lent}
use Rattle.words.specs.Sets.{member}
use native.Mathlib.Omega.{arith}
use mathlib.Core.Path.{sym, ◌∙◌}
use Rattle.update.proofs.update.Goals as goal

pub returns-then-stray_member : goal.returns-then-stray_member
returns-then-stray_member c = λ T. update_stray (lent c.args.counts c.args.made c.args.nodes.now c.args.operands.now c.args.roots.now c.args.producers.now c.args.readers.now T) (member 64 c.args.candidate.now) c.args.kept.now c.requires.0.kept_long (sym (c.stray_member.ensures (lent c.args.counts c.args.made c.args.nodes.now c.args.operands.now c.args.roots.now c.args.producers.now c.args.readers.now T)) ∙ c.if-stray_member.true)

pub start-requires : goal.start-requires
start-requires c = record { limited = (c.requires.0.limited, c.requires.2, c.requires.0.readers_long, c.requires.0.kept_long, c.requires.4, c.requires.5, c.requires.6); within = (c.requires.3, λ T. not_stray (sized c.args.counts T) (member 64 c.args.candidate.now) c.args.kept.now c.requires.0.kept_long (sym (c.stray_member.ensures (sized c.args.counts T)) ∙ c.if-stray_member.false)); between = c.requires.7 }

pub returns-in_err-start : goal.returns-in_err-start
returns-in_err-start c = λ T. rw (raised _ _ c.from_residual.ensures.1) (update_fault (lent c.args.counts c.args.made c.args.nodes.now c.args.operands.now c.args.roots.now c.args.producers.now c.args.readers.now T) (member 64 c.args.candidate.now) c.args.kept.now c.requires.0.kept_long (sym (c.stray_member.ensures (lent c.args.counts c.args.made c.args.nodes.now c.args.operands.now c.args.roots.now c.args.producers.now c.args.readers.now T)) ∙ c.if-stray_member.false) _ _ (c.start.ensures (lent c.args.counts c.args.made c.args.nodes.now c.args.operands.now c.args.roots.now c.args.producers.now c.args.readers.now T)) c.in_err-start.was)

pub walk-requires : goal.walk-requires
walk-requires c = (rw c.start.auto.kept c.requires.0, c.requires.1, omega arith)

pub returns : goal.returns
returns c = λ T. update_walk (lent c.args.counts c.args.made c.args.nodes.now c.args.operands.now c.args.roots.now c.args.producers.now c.args.readers.now T) (member 64 c.args.candidate.now) c.args.kept.now c.requires.0.kept_long (sym (c.stray_member.ensures (lent c.args.counts c.args.made c.args.nodes.now c.args.operands.now c.args.roots.now c.args.producers.now c.args.readers.now T)) ∙ c.if-stray_member.false) _ _ (c.start.ensures (lent c.args.counts c.args.made c.args.nodes.now c.args.operands.now c.args.roots.now c.args.producers.now c.args.readers.now T)) c.in_ok-start.was c.walk.result _ (c.walk.ensures (lent c.args.counts c.args.made c.args.nodes.now c.args.operands.now c.args.roots.now c.args.producers.now c.args.readers.now T))
