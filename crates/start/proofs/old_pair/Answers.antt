use Prim.Native.Nat.{◌+◌, ◌*◌}
use native.Mathlib.Omega.{arith}
use mathlib.Core.Path.{refl}
use Rattle.kept_laws.specs.Given.{candidate_at, sized}
use Rattle.start.specs.PairLaws.{pair_whole, pair_last}
use Rattle.start.proofs.old_pair.Goals as goal

pub pair-requires : goal.pair-requires
pair-requires c = rw c.candidate_at.ensures (omega (arith, c.if-j-counts.true, c.requires.1, c.requires.2))

pub returns-then-j-counts : goal.returns-then-j-counts
returns-then-j-counts c = let g = c.args in λ T. pair_whole (sized g.counts T) g.kept.now g.j c.requires.1 (omega (arith, c.type_inv.kept (candidate_at g.counts + 2 * g.j))) _ (omega (arith, c.if-j-counts.true)) (rw c.candidate_at.ensures at c.pair.ensures)

pub bounds-kept-at : goal.bounds-kept-at
bounds-kept-at c = rw c.candidate_at.ensures (omega (arith, c.requires.1, c.requires.2))

pub overflow_cast-result : goal.overflow_cast-result
overflow_cast-result c = let g = c.args in rw c.candidate_at.ensures (omega (arith, c.type_inv.kept (candidate_at g.counts + 2 * g.j)))

pub returns : goal.returns
returns c = let g = c.args in λ T. pair_last (sized g.counts T) g.kept.now g.j c.requires.1 (omega (arith, c.type_inv.kept (candidate_at g.counts + 2 * g.j))) _ (omega (arith, c.if-j-counts.false, c.requires.2)) (rw c.candidate_at.ensures refl)
