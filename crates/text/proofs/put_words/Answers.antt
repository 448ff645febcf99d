use mathlib.Core.Path.{refl, ap}
use borrow.Author.Rules.{rules}
use native.Mathlib.Omega.{arith}
use lib.ListN.{get_or}
use lib.Seq.{take_all}
use Rattle.text.specs.ClipLaws.{put_none, put_same, put_end}
use Rattle.text.specs.Lines.{spaced}
use Rattle.text.specs.LinesLaws.{length-field}
use Rattle.text.specs.PieceLaws.{put_words_next}
use Rattle.text.proofs.put_words.Goals as goal

pub loop-word-init : goal.loop-word-init
unfolding spaced
loop-word-init c = (search rules, refl, put_none c.args.out.now c.args.at)

pub loop-word-preserved : goal.loop-word-preserved
loop-word-preserved c = (
  omega (arith, put_end 21 c.put_field-end.ensures (length-field (get_or c.args.words.now c.loop-word.word-index 0))),
  search rules,
  put_words_next c.args.words.now c.loop-word.word-index _ c.loop-word-test.true refl c.loop-word.invariant.2 c.put_field-end.ensures,
)

pub returns : goal.returns
returns c = put_same (ap spaced (take_all c.loop-word.word-index c.args.words.now c.loop-word-test.false)) c.loop-word.invariant.2
