use native.Mathlib.Omega.{arith}
use mathlib.Core.Path.{sym, ◌∙◌}
use Rattle.words.proofs.Words.{next_past, after, here, here_fits}
use Rattle.words.proofs.set.next.Goals as goal

pub returns-then-words-q : goal.returns-then-words-q
returns-then-words-q g c = sym (next_past _ _ _ g.met.W.Word.laws c.args.words.now _ (rw c.BITS.ensures at c.if-words-q.true))

pub returns-then-rest-eq0 : goal.returns-then-rest-eq0
returns-then-rest-eq0 g c =
    c.next_word.ensures ∙ rw c.BITS.ensures (sym (after _ _ _ g.met.W.Word.laws c.args.words.now c.args.from _ _ (rw c.BITS.ensures at c.index-words-q.is) (rw c.BITS-2.ensures at c.rest-rest.ensures.value) (rw c.BITS.ensures at c.if-words-q.false) c.if-rest-eq0.true))

pub overflow_add-result : goal.overflow_add-result
overflow_add-result g c = omega (arith, here_fits _ _ _ g.met.W.Word.laws c.args.words.now c.args.from _ _ (rw c.BITS.ensures at c.index-words-q.is) (rw c.BITS-2.ensures at c.rest-rest.ensures.value) (rw c.BITS.ensures at c.if-words-q.false) c.rest-rest.ensures.fits c.if-rest-eq0.false c.requires.from_bound c.requires.words_bound)

pub returns : goal.returns
returns g c = rw c.lowest.ensures (sym (here _ _ _ g.met.W.Word.laws c.args.words.now c.args.from _ _ (rw c.BITS.ensures at c.index-words-q.is) (rw c.BITS-2.ensures at c.rest-rest.ensures.value) (rw c.BITS.ensures at c.if-words-q.false) c.rest-rest.ensures.fits c.if-rest-eq0.false))
