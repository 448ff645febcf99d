use native.Mathlib.Omega.{arith}
use mathlib.Core.Path.{◌≡◌, refl, ◌∙◌}
use Rattle.difference.proofs.pairs_changes.Goals as goal

pub loop-j-init : goal.loop-j-init
loop-j-init c = (c.requires.found, omega arith, refl, c.requires.first_le_end.0)

pub with_pair-d-requires : goal.with_pair-d-requires
with_pair-d-requires c = record {
  bounds = (omega (arith, c.loop-j-test.true, c.requires.first_le_end.1), omega (arith, c.loop-j-test.true, c.requires.first_le_end.2), omega (arith, c.loop-j-test.true, c.requires.first_le_end.3), omega (arith, c.loop-j-test.true, c.requires.first_le_end.4, c.loop-j.invariant.2));
  found = c.loop-j.invariant.0;
}

pub loop-j-preserved : goal.loop-j-preserved
loop-j-preserved c = (c.with_pair-d.ensures.0, omega (arith, c.with_pair-d.ensures.1, c.loop-j.invariant.1), c.with_pair-d.auto.marks ∙ c.loop-j.invariant.2, omega (arith, c.loop-j-test.true))

pub returns : goal.returns
returns c = let e : c.loop-j.j ≡ c.args.end = omega (arith, c.loop-j.invariant.3, c.loop-j-test.false) in (rw e at c.loop-j.invariant.0, c.loop-j.invariant.1)
