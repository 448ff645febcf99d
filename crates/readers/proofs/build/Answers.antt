use Prim.Native.Nat.{◌+◌}
use mathlib.Core.Path.{◌∙◌}
use native.Mathlib.Omega.{arith}
use Rattle.readers.specs.Incidences.{incidences}
use Rattle.readers.specs.Placement.{Head, Counted}
use Rattle.readers.specs.ReaderTable.{slots}
use Rattle.readers.proofs.Table.{counts_fit, counts_are, sums_start, sums_fit, places_fit, passes_build}
use Rattle.readers.proofs.build.Goals as goal
use Rattle.readers.proofs.build.Goals.{After-pass_all}

counted : (c : After-pass_all) → Head (slots c.args.counts) (slots c.args.counts + 1) (Counted (incidences c.args.counts c.args.nodes.now c.args.operands.now c.args.roots.now c.args.producers.now c.args.p)) c.args.table.now c.pass_all.new.table
counted c = counts_are _ _ _ _ _ _ c.requires.0 _ _ (omega (arith, c.requires.1)) c.clear.ensures _ c.pass_all.ensures

pub pass_all-requires : goal.pass_all-requires
pass_all-requires c = (c.requires.0, counts_fit _ _ _ _ _ _ c.requires.0 _ _ (omega (arith, c.requires.1)) c.clear.ensures)

pub sum-requires : goal.sum-requires
sum-requires c =
    let h = counted (goal.at.sum-requires c).After-pass_all in
    (omega (arith, h.long, c.requires.1), sums_fit _ _ _ _ _ _ c.requires.0 _ _ h, h.first)

pub pass_all-requires-2 : goal.pass_all-requires-2
pass_all-requires-2 c =
    let h = counted (goal.at.pass_all-requires-2 c).After-pass_all in
    (c.requires.0, (places_fit _ _ _ _ _ _ c.requires.0 _ (omega (arith, c.sum.ensures.long, h.long, c.requires.1)) (sums_start _ _ _ _ _ h c.sum.ensures)).0)

pub returns : goal.returns
returns c =
    let h = counted (goal.at.returns c).After-pass_all in
    let laid = (places_fit _ _ _ _ _ _ c.requires.0 _ (omega (arith, c.sum.ensures.long, h.long, c.requires.1)) (sums_start _ _ _ _ _ h c.sum.ensures)).1 in
    passes_build _ _ _ _ _ _ c.requires.0 _ _ _ _ h c.sum.ensures (c.pass_all-2.ensures ∙ laid)
