use native.Mathlib.Omega.{arith}
use mathlib.Core.Path.{◌∙◌}
use lib.ListN.{take}
use Rattle.ranks.specs.Dependency.{dependencies}
use Rattle.dependency.specs.LayingLaws.{ready_later, v_fits, sized, laid-part, ranks_part, tail_front}
use Rattle.dependency.proofs.derive_ranks.Goals as goal

pub derive-requires : goal.derive-requires
derive-requires c = (sized c.args.counts c.args.nodes.now c.args.operands.now c.args.roots.now c.args.v c.lay_all.new.area (ready_later c.args.counts c.args.nodes.now c.args.operands.now c.args.roots.now c.args.v c.args.area.now c.lay_all.new.area c.lay_all.ensures.long c.requires.0), omega (arith, c.requires.0.vertices), (dependencies c.args.counts c.args.nodes.now c.args.operands.now (take c.args.counts.nodes c.args.area.now) c.args.roots.now, laid-part _ _ _ _ _ _ _ c.lay_all.ensures))

pub returns : goal.returns
returns c = record { area_after = rw (ranks_part c.args.counts.nodes c.args.v c.args.counts.atoms c.lay_all.new.area c.derive.new.area (v_fits c.args.counts c.args.nodes.now c.args.operands.now c.args.roots.now c.args.v c.lay_all.new.area (ready_later c.args.counts c.args.nodes.now c.args.operands.now c.args.roots.now c.args.v c.args.area.now c.lay_all.new.area c.lay_all.ensures.long c.requires.0))) (c.derive.ensures.area_after _ (laid-part _ _ _ _ _ _ _ c.lay_all.ensures)); area_unchanged = tail_front c.args.counts.nodes c.lay_all.new.area c.derive.new.area (v_fits c.args.counts c.args.nodes.now c.args.operands.now c.args.roots.now c.args.v c.lay_all.new.area (ready_later c.args.counts c.args.nodes.now c.args.operands.now c.args.roots.now c.args.v c.args.area.now c.lay_all.new.area c.lay_all.ensures.long c.requires.0)) ∙ c.lay_all.ensures.classes }
