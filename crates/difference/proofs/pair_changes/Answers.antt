use Prim.Native.Nat.{◌+◌, ◌*◌}
use native.Mathlib.Omega.{arith}
use Rattle.difference.specs.PairLaws.{pair-changed}
use Rattle.difference.specs.MarkLaws.{upto_marked}
use Rattle.difference.proofs.pair_changes.Goals as goal

pub returns : goal.returns
returns c = record { result_value = pair-changed c.args.at c.args.kept.now c.args.candidate.now c.args.j c.pair.result c.changed.result c.pair.ensures (omega (arith, c.type_inv.kept (c.args.at + 2 * c.args.j))) (omega (arith, c.type_inv.kept (c.args.at + 2 * c.args.j + 1))) (omega (arith, c.shared_slice_known-1.given c.args.j)) c.changed.ensures; upto = rw c.insert.ensures (upto_marked c.args.at c.args.kept.now c.args.candidate.now (2 * c.args.j) (2 * (c.args.j + 1)) c.args.j c.args.marks.now c.requires.2 (omega arith) (omega arith)) }
