use native.Mathlib.Omega.{arith}
use native.Mathlib.Nat.{sub-zero}
use mathlib.Core.Path.{◌≡◌, ◌∙◌}
use lib.ListN.{length}
use Rattle.record.specs.File.{theory_file}
use Rattle.record.proofs.Steps.{next_within, start_within}
use Rattle.load.proofs.Storing.{turn, stands, room_here, next_here, store_go, store_done}
use Rattle.load.proofs.store_all.Goals as goal

pub loop-c-init : goal.loop-c-init
unfolding theory_file
loop-c-init c = (rw c.start-c.ensures (start_within _), rw (c.start-c.ensures, sub-zero) c.requires, rw (c.start-c.ensures, sub-zero))

pub mark_at-mark-requires : goal.mark_at-mark-requires
mark_at-mark-requires c = (turn _ _ _ _ _ c.loop-c.invariant.0 c.loop-c-test.true c.loop-c.invariant.1).marked

pub values_of-v-requires : goal.values_of-v-requires
values_of-v-requires c = rw c.mark_at-mark.ensures (turn _ _ _ _ _ c.loop-c.invariant.0 c.loop-c-test.true c.loop-c.invariant.1).whole

pub store-requires : goal.store-requires
store-requires c = let w = c.loop-c in
    let t = turn _ _ _ _ _ w.invariant.0 c.loop-c-test.true w.invariant.1 in
    let m = c.mark_at-mark.ensures in
    let v = c.values_of-v.ensures in
    (stands _ _ _ _ _ _ _ t m v, w.invariant.0.limited, rw (w.auto.nodes, w.auto.operands, w.auto.roots) (room_here _ _ _ _ _ _ _ t m v))

pub next_cursor-c-requires : goal.next_cursor-c-requires
next_cursor-c-requires c = let w = c.loop-c in
    let t = turn _ _ _ _ _ w.invariant.0 c.loop-c-test.true w.invariant.1 in
    (w.invariant.0, stands _ _ _ _ _ _ _ t c.mark_at-mark.ensures c.values_of-v.ensures)

pub loop-c-smaller : goal.loop-c-smaller
loop-c-smaller c = let w = c.loop-c in
    let t = turn _ _ _ _ _ w.invariant.0 c.loop-c-test.true w.invariant.1 in
    let n = c.next_cursor-c.ensures ∙ next_here _ _ _ _ _ _ _ t c.mark_at-mark.ensures c.values_of-v.ensures in
    rw n (omega (arith, (next_within _ _ _ t.goes w.invariant.0).1))

pub loop-c-preserved : goal.loop-c-preserved
loop-c-preserved c = let w = c.loop-c in
    let t = turn _ _ _ _ _ w.invariant.0 c.loop-c-test.true w.invariant.1 in
    let n = c.next_cursor-c.ensures ∙ next_here _ _ _ _ _ _ _ t c.mark_at-mark.ensures c.values_of-v.ensures in
    rw n ((next_within _ _ _ t.goes w.invariant.0).0, t.fits, rw c.store.ensures (store_go _ _ _ _ w.invariant.2 w.invariant.0 c.loop-c-test.true t.goes))

pub returns : goal.returns
returns c = let e : c.loop-c.c.at ≡ length c.args.file.now = omega (arith, c.loop-c.invariant.0.at) in store_done _ _ _ _ c.loop-c.invariant.2 e
