use Rattle.base.specs.Raised.{raised}
use Rattle.complete.specs.Sequel.{of_sized, still_missing, still_roots_then, summary_done, summary_stop}
use Rattle.complete.specs.Phases.{summed}
use Rattle.kept_laws.specs.Given.{produced}
use mathlib.Core.Path.{ap, ◌∙◌}
use native.Mathlib.Omega.{arith}
use Rattle.complete.proofs.summarize.Goals as goal

pub lay_missing-requires : goal.lay_missing-requires
lay_missing-requires c = (c.requires.limited.0, omega (arith, c.count_producers.auto, c.requires.limited.4), λ T. ap (λ d. d.missing) (of_sized c.args.counts T (produced c.args.counts c.args.made c.args.producers.now T) c.count_producers.new.kept) ∙ still_missing (produced c.args.counts c.args.made c.args.producers.now T) c.args.kept.now c.requires.limited.4 _ _ (c.count_producers.ensures T) c.in_ok-count_producers.was ∙ c.requires.no_support.1 (produced c.args.counts c.args.made c.args.producers.now T))

pub lay_roots-requires : goal.lay_roots-requires
lay_roots-requires c = (c.requires.limited.0, c.requires.limited.2, omega (arith, c.lay_missing.auto, c.count_producers.auto, c.requires.limited.4), λ T. ap (λ d. d.false_roots) (of_sized c.args.counts T (produced c.args.counts c.args.made c.args.producers.now T) c.lay_missing.new.kept) ∙ still_roots_then (produced c.args.counts c.args.made c.args.producers.now T) c.args.kept.now c.requires.limited.4 _ _ (c.count_producers.ensures T) c.in_ok-count_producers.was _ (c.lay_missing.ensures (produced c.args.counts c.args.made c.args.producers.now T)) ∙ c.requires.no_support.2 (produced c.args.counts c.args.made c.args.producers.now T))

pub returns : goal.returns
returns c = λ T. summary_done (summed c.args.counts c.args.made c.args.roots.now c.args.producers.now T) c.args.kept.now c.requires.limited.4 _ _ (c.count_producers.ensures (summed c.args.counts c.args.made c.args.roots.now c.args.producers.now T)) c.in_ok-count_producers.was _ (c.lay_missing.ensures (summed c.args.counts c.args.made c.args.roots.now c.args.producers.now T)) _ _ (c.lay_roots.ensures (summed c.args.counts c.args.made c.args.roots.now c.args.producers.now T))

pub returns-in_err-count_producers : goal.returns-in_err-count_producers
returns-in_err-count_producers c = λ T. rw (raised _ _ c.from_residual.ensures.1) (summary_stop (summed c.args.counts c.args.made c.args.roots.now c.args.producers.now T) c.args.kept.now c.requires.limited.4 _ _ (c.count_producers.ensures (summed c.args.counts c.args.made c.args.roots.now c.args.producers.now T)) _ c.in_err-count_producers.was)
