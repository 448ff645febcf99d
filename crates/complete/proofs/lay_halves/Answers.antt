use Rattle.complete.specs.Fills.{fill_none, fill_more, fill_done}
use Rattle.words.specs.Halves.{half}
use lib.ListN.{length-set}
use native.Mathlib.Omega.{arith}
use borrow.Author.Rules.{rules}
use Rattle.complete.proofs.lay_halves.Goals as goal

pub loop-i-init : goal.loop-i-init
loop-i-init c = (search rules, search rules, fill_none (half c.args.candidate.now) c.args.part.now)

pub half_word-requires : goal.half_word-requires
half_word-requires c = omega (arith, c.loop-i.invariant.1, c.requires)

pub loop-i-preserved : goal.loop-i-preserved
loop-i-preserved c = (omega (arith, c.loop-i.invariant.1), simp length-set c.loop-i.invariant.1, fill_more (half c.args.candidate.now) c.args.part.now _ _ _ (omega (arith, c.loop-i.invariant.1)) c.half_word.ensures c.loop-i.invariant.2)

pub shape_of-part : goal.shape_of-part
shape_of-part c = c.loop-i.invariant.1

pub returns : goal.returns
returns c = fill_done (half c.args.candidate.now) c.args.part.now _ _ (omega (arith, c.loop-i.invariant.1)) c.loop-i.invariant.0 c.loop-i.invariant.2
