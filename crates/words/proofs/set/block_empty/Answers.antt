use native.Mathlib.Omega.{arith}
use mathlib.Core.Path.{◌≡◌, ◌∙◌}
use Prim.Native.Nat.{◌+◌, ◌-◌, ◌<◌}
use lib.ListN.{drop}
use Rattle.std.proofs.lemmas.List.{length-take}
use Rattle.std.proofs.lemmas.Simd.{get_or-chunk}
use Rattle.words.proofs.Blocks.{gathered_more}
use Rattle.words.proofs.Words.{read}
use Rattle.words.proofs.set.block_empty.Goals as goal

pub loop-word-preserved : goal.loop-word-preserved
loop-word-preserved g c =
    let q = c.args.first + c.loop-word.word-index in
    let e : c.args.first + (c.loop-word.word-index + 1) ≡ q + 1 = omega arith in
    let l : c.loop-word.word-index < c.args.first + 32 - c.args.first = omega (arith, c.loop-word-test.true, length-take (c.args.first + 32 - c.args.first) (drop c.args.first c.args.words.now)) in
    rw (e, read _ _ _ g.met.W.Word.laws _ q _ _ (c.word-item.is ∙ get_or-chunk _ _ c.args.words.now _ _ l) c.wide-x.ensures.value (omega (arith, l))) (gathered_more _ _ _ _ (omega arith) c.loop-word.invariant)
