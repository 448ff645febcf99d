use mathlib.Core.Path.{sym, ◌∙◌}
use native.Mathlib.Omega.{arith}
use Rattle.words.proofs.Words.{pass, hit, hit_fits}
use Rattle.words.proofs.set.within.Goals as goal

pub overflow_add-result : goal.overflow_add-result
overflow_add-result g c = rw c.BITS.ensures (omega (arith, hit_fits _ _ _ g.met.W.Word.laws _ c.loop-q.q _ _ c.index-words-q.is c.wide-x.ensures.value (omega arith) c.wide-x.ensures.fits c.if-x-ne0.true c.requires.words_bound))

pub returns-then-x-ne0 : goal.returns-then-x-ne0
returns-then-x-ne0 g c = rw (c.BITS.ensures, c.lowest.ensures) (sym (hit _ _ _ g.met.W.Word.laws _ c.loop-q.q _ _ c.index-words-q.is c.wide-x.ensures.value (omega arith) c.wide-x.ensures.fits c.if-x-ne0.true) ∙ c.loop-q.invariant)

pub loop-q-preserved : goal.loop-q-preserved
loop-q-preserved g c = sym (pass _ _ _ g.met.W.Word.laws _ c.loop-q.q _ _ c.index-words-q.is c.wide-x.ensures.value (omega arith) c.if-x-ne0.false) ∙ c.loop-q.invariant
