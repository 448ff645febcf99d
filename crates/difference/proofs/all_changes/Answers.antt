use Prim.Native.Nat.{min}
use native.Mathlib.Omega.{arith}
use mathlib.Core.Path.{◌≡◌, refl, ◌∙◌}
use Rattle.difference.specs.Found.{found_none}
use Rattle.difference.proofs.all_changes.Goals as goal

pub loop-j-init : goal.loop-j-init
loop-j-init c = let e : min 0 c.args.pairs ≡ 0 = omega arith in (rw e (found_none c.args.at c.args.kept.now c.args.candidate.now c.args.pairs c.args.marks.now), omega arith, refl)

pub block_changes-d-requires : goal.block_changes-d-requires
block_changes-d-requires c = let e : min c.loop-j.j c.args.pairs ≡ c.loop-j.j = omega (arith, c.loop-j-test.true) in record {
  first_le_end = (omega (arith, c.min-end.ensures, c.loop-j-test.true), omega (arith, c.min-end.ensures), omega (arith, c.min-end.ensures, c.requires.0), omega (arith, c.min-end.ensures, c.requires.1), omega (arith, c.min-end.ensures, c.requires.2), omega (arith, c.min-end.ensures, c.requires.3, c.loop-j.invariant.2));
  found = rw e at c.loop-j.invariant.0;
}

pub loop-j-preserved : goal.loop-j-preserved
loop-j-preserved c = (rw c.min-end.ensures at c.block_changes-d.ensures.0, omega (arith, c.block_changes-d.ensures.1, c.loop-j.invariant.1), c.block_changes-d.auto.marks ∙ c.loop-j.invariant.2)

pub returns : goal.returns
returns c = let e : min c.loop-j.j c.args.pairs ≡ c.args.pairs = omega (arith, c.loop-j-test.false) in (rw e at c.loop-j.invariant.0, c.loop-j.invariant.1)
