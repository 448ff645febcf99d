use Prim.Native.Nat.{◌+◌, ◌*◌}
use native.Mathlib.Omega.{arith}
use Rattle.difference.specs.Found.{found_same, found_pair, found_most}
use Rattle.difference.specs.PairLaws.{from_none, from_more}
use Rattle.difference.proofs.with_pair.Goals as goal

pub returns-then-same_pair : goal.returns-then-same_pair
returns-then-same_pair c = let g = c.args in (
  found_same g.at g.kept.now g.candidate.now g.j (g.j + 1) g.marks.now g.d (omega arith)
      (from_more g.at g.kept.now g.candidate.now g.j g.j (from_none g.at g.kept.now g.candidate.now g.j) (c.same_pair.ensures c.if-same_pair.true)) c.requires.found,
  omega arith,
)

pub overflow_add-changes : goal.overflow_add-changes
overflow_add-changes c = let g = c.args in
    omega (arith, c.requires.bounds.0, found_most g.at g.kept.now g.candidate.now (2 * g.j) (2 * (g.j + 1)) _ _ _ c.requires.found c.pair_changes.ensures.result_value)

pub returns : goal.returns
returns c = let g = c.args in (
  found_pair g.at g.kept.now g.candidate.now g.j _ _ _ _ _ _ _ c.requires.found c.pair_changes.ensures.result_value c.pair_changes.ensures.upto c.min.ensures,
  omega (arith, c.min.ensures),
)
