use Prim.Native.Nat.{◌+◌, ◌*◌}
use native.Mathlib.Omega.{arith}
use mathlib.Core.Path.{◌∙◌, sym}
use borrow.Author.Tests.{eqb-true}
use Rattle.difference.specs.PairLaws.{pair_same}
use Rattle.difference.proofs.same_pair.Goals as goal

pub returns : goal.returns
returns c = λ e. pair_same c.args.at c.args.kept.now c.args.candidate.now c.args.j (omega (arith, c.type_inv.kept (c.args.at + 2 * c.args.j))) (omega (arith, c.type_inv.kept (c.args.at + 2 * c.args.j + 1))) (sym c.pair.ensures ∙ eqb-true _ _ e)
