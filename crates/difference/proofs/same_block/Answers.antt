use Prim.Native.Nat.{◌+◌, ◌*◌}
use native.Mathlib.Omega.{arith}
use mathlib.Core.Path.{◌≡◌}
use borrow.Author.Rules.{rules}
use borrow.Author.Tests.{eqb-true}
use Rattle.difference.specs.PairLaws.{from_none, gathered_more}
use Rattle.difference.proofs.same_block.Goals as goal

pub loop-j-init : goal.loop-j-init
loop-j-init c = ((λ e. from_none c.args.at c.args.kept.now c.args.candidate.now c.args.first), search rules, search rules)

pub loop-j-preserved : goal.loop-j-preserved
loop-j-preserved c = ((λ e. gathered_more c.args.at c.args.kept.now c.args.candidate.now c.args.first c.loop-j.j c.loop-j.d c.pair.result c.loop-j.invariant.0 c.pair.ensures (omega (arith, c.type_inv.kept (c.args.at + 2 * c.loop-j.j))) (omega (arith, c.type_inv.kept (c.args.at + 2 * c.loop-j.j + 1))) e), search rules, search rules)

pub returns : goal.returns
returns c = λ e. let q : c.loop-j.j ≡ c.args.first + 16 = omega arith in rw q at (c.loop-j.invariant.0 (eqb-true _ _ e))
