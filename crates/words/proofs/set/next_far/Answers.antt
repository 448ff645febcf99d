use native.Mathlib.Omega.{arith}
use mathlib.Core.Path.{◌≡◌, sym, ◌∙◌}
use Prim.Native.Nat.{◌+◌, ◌-◌, ◌*◌, ◌/◌}
use lib.ListN.{length}
use Rattle.words.proofs.Words.{next_or_stop, block_pass, block_in, block_times, block_some, block_hit, block_fits}
use Rattle.words.proofs.set.next_far.Goals as goal

pub overflow_mul-result : goal.overflow_mul-result
overflow_mul-result g c = rw c.BITS.ensures (omega (arith, block_times _ _ _ g.met.W.Word.laws c.args.words.now _ _ _ c.nonzeros.ensures c.block_empty.ensures.1 c.if-not-block_empty.true (omega arith) c.requires.words_bound))

pub bounds-words-i : goal.bounds-words-i
bounds-words-i g c = block_in _ _ _ g.met.W.Word.laws c.args.words.now _ _ _ c.nonzeros.ensures c.block_empty.ensures.1 c.if-not-block_empty.true (omega arith)

pub lowest-requires-clause-some : goal.lowest-requires-clause-some
lowest-requires-clause-some g c = block_some _ _ _ g.met.W.Word.laws c.args.words.now _ _ _ c.nonzeros.ensures c.block_empty.ensures.1 c.if-not-block_empty.true (omega arith) _ _ c.index-words-i.is c.wide.ensures.value c.wide.ensures.fits

pub overflow_add-result : goal.overflow_add-result
overflow_add-result g c = rw c.BITS.ensures (omega (arith, block_fits _ _ _ g.met.W.Word.laws c.args.words.now _ _ _ c.nonzeros.ensures c.block_empty.ensures.1 c.if-not-block_empty.true (omega arith) _ _ c.index-words-i.is c.wide.ensures.value c.wide.ensures.fits c.requires.words_bound))

pub returns-then-not-block_empty : goal.returns-then-not-block_empty
returns-then-not-block_empty g c = rw (c.BITS.ensures, c.lowest.ensures) (sym (block_hit _ _ _ g.met.W.Word.laws c.args.words.now _ _ _ c.nonzeros.ensures c.block_empty.ensures.1 c.if-not-block_empty.true (omega arith) _ _ c.index-words-i.is c.wide.ensures.value c.wide.ensures.fits) ∙ c.loop-k.invariant)

pub loop-k-preserved : goal.loop-k-preserved
loop-k-preserved g c =
    let e : c.args.first + 32 * (c.loop-k.k + 1) ≡ c.args.first + 32 * c.loop-k.k + 32 = omega arith in
    rw e (sym (block_pass _ _ _ g.met.W.Word.laws c.args.words.now _ (omega arith) (c.block_empty.ensures.0 c.if-not-block_empty.false)) ∙ c.loop-k.invariant)

pub returns : goal.returns
returns g c =
    let e : c.loop-k.k ≡ (length c.args.words.now - c.args.first) / 32 = omega arith in
    (rw c.BITS-2.ensures at c.unwrap_or.ensures) ∙ next_or_stop _ _ _ g.met.W.Word.laws c.args.words.now _ _ c.within.ensures ∙ (rw e at c.loop-k.invariant)
