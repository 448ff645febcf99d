use native.Mathlib.Omega.{arith}
use Prim.Native.Nat.{◌+◌}
use mathlib.Core.Path.{sym, ◌∙◌}
use Rattle.words.proofs.Blocks.{marked_none, marked_no, marked_yes}
use Rattle.words.proofs.Words.{read}
use Rattle.words.proofs.set.nonzeros.Goals as goal
use Rattle.words.proofs.set.nonzeros.Goals.{then-wide-ne0, else-wide-ne0}

pub loop-k-init : goal.loop-k-init
loop-k-init g c = marked_none _ _

pub loop-k-preserved : goal.loop-k-preserved
loop-k-preserved g c =
    let is = read _ _ _ g.met.W.Word.laws _ (c.args.first + c.loop-k.k) _ _ c.index-words-first.is c.wide.ensures.value (omega arith) in
    elim c.if-wide-ne0.branch [
      | then-wide-ne0 w ↦ rw w.x-is (marked_yes _ _ _ _ c.loop-k.invariant 32 c.loop-k-test.true (λ z. w.if-wide-ne0.true (is ∙ z)))
      | else-wide-ne0 w ↦ rw w.x-is (marked_no _ _ _ _ c.loop-k.invariant (sym is ∙ w.if-wide-ne0.false))
    ]
