use Rattle.complete.specs.Search.{next_within, word_found, word-passed}
use lib.Count.{trailing_le}
use Rattle.words.specs.PlaceLaws.{place_trailing}
use mathlib.Core.Path.{refl, sym, ◌∙◌}
use Prim.Native.Nat.{◌/◌, ◌%◌, ◌^◌}
use native.Mathlib.Nat.{div-le_self}
use native.Mathlib.Omega.{arith}
use borrow.Author.Rules.{rules}
use Rattle.complete.proofs.next_lacking.Goals as goal

pub loop-a-init : goal.loop-a-init
loop-a-init c = (search rules, refl)

pub overflow_cast-x-then-x-ne0 : goal.overflow_cast-x-then-x-ne0
overflow_cast-x-then-x-ne0 c = omega (arith, div-le_self c.lacking.result (2 ^ (c.loop-a.a % 32)), c.lacking.type_inv)

pub overflow_cast-result : goal.overflow_cast-result
overflow_cast-result c = omega (arith, place_trailing 64 _ _ c.bits.ensures, trailing_le 64 (c.lacking.result / 2 ^ (c.loop-a.a % 32)))

pub overflow_add-result : goal.overflow_add-result
overflow_add-result c = let g = c.args in
    let a = c.loop-a.a in
    omega (arith, place_trailing 64 _ _ c.bits.ensures, word_found g.counts g.kept.now a c.lacking.result c.loop-a-test.true c.lacking.ensures c.lacking.type_inv c.if-x-ne0.true, next_within g.counts g.kept.now a c.loop-a.invariant.0, c.requires)

pub returns-then-x-ne0 : goal.returns-then-x-ne0
returns-then-x-ne0 c = let g = c.args in
    rw (place_trailing 64 _ _ c.bits.ensures)
    (sym (c.loop-a.invariant.1 ∙ word_found g.counts g.kept.now c.loop-a.a c.lacking.result c.loop-a-test.true c.lacking.ensures c.lacking.type_inv c.if-x-ne0.true))

pub loop-a-preserved : goal.loop-a-preserved
loop-a-preserved c = (search rules, c.loop-a.invariant.1 ∙ word-passed c.args.counts c.args.kept.now c.loop-a.a c.lacking.result c.loop-a-test.true c.lacking.ensures c.if-x-ne0.false)

pub returns : goal.returns
returns c = c.next_single.ensures ∙ sym c.loop-a.invariant.1
