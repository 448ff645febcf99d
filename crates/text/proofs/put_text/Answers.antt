use mathlib.Core.Path.{refl}
use borrow.Author.Rules.{rules}
use native.Mathlib.Omega.{arith}
use lib.Seq.{take_all}
use Rattle.text.specs.ClipLaws.{put_none, put_next, put_same}
use Rattle.text.proofs.put_text.Goals as goal

pub loop-byte-init : goal.loop-byte-init
loop-byte-init c = (search rules, refl, put_none c.args.out.now c.args.at)

pub loop-byte-preserved : goal.loop-byte-preserved
loop-byte-preserved c = (
  omega (arith, c.put-end.ensures.on),
  search rules,
  put_next c.args.text.now c.loop-byte.byte-index c.loop-byte-test.true c.loop-byte.invariant.2 c.put-end.ensures,
)

pub returns : goal.returns
returns c = put_same (take_all c.loop-byte.byte-index c.args.text.now c.loop-byte-test.false) c.loop-byte.invariant.2
