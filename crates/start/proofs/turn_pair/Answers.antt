use Rattle.base.specs.Raised.{raised}
use native.Mathlib.Omega.{arith}
use mathlib.Core.Path.{refl, ap}
use lib.ListN.{length}
use lib.Bits.{xor_lt}
use Rattle.words.specs.PlaceLaws.{place_below, place_set, place_some, place_off}
use Rattle.words.specs.TakeOffLaws.{off_small, off_set}
use Rattle.kept.specs.Tables.{Tables}
use Rattle.kept_laws.specs.Given.{bare, listed}
use Rattle.start.specs.WordLaws.{place_read, turning_first, turning_done, turning_stray, turning_more}
use Rattle.start.specs.PairLaws.{pair_within}
use Rattle.start.specs.LaidPair.{pair_turned}
use Rattle.start.proofs.turn_pair.Goals as goal

pub old_pair-requires : goal.old_pair-requires
old_pair-requires c = (c.requires.limited.0, c.requires.limited.2, c.requires.limited.3)

pub lay_pair-requires : goal.lay_pair-requires
lay_pair-requires c = (c.requires.limited.0, c.requires.limited.2, c.requires.limited.3)

pub loop-counts-init : goal.loop-counts-init
loop-counts-init c = let t : Tables → Tables = λ T. listed c.args.counts c.args.readers.now T in (
  λ T J same. turning_first (t T) J 64 _ c.args.j _ (omega (arith, c.requires.limited.2, c.lay_pair.auto.kept)),
  pair_within (t (bare c.args.counts)) c.args.kept.now c.args.j _ _ (c.old_pair.ensures (t (bare c.args.counts))) (c.requires.k_bound (bare c.args.counts)),
  refl,
  xor_lt 64 _ _ c.old_pair.type_inv c.ranges.new.fits,
)

pub returns-then-k-eq64 : goal.returns-then-k-eq64
returns-then-k-eq64 c = λ T J same.
    let t = listed c.args.counts c.args.readers.now T in
    pair_turned t c.args.kept.now c.requires.limited.2 (λ k. omega (arith, c.slice_known-1.given k)) c.args.j _ c.ranges.new.fits c.requires.limited.3 _
    c.lay_pair.ensures (c.requires.k_bound T) J same _ (c.old_pair.ensures t) _ _
    (turning_done t J 64 _ c.args.j _ (omega (arith, c.requires.limited.2, c.lay_pair.auto.kept)) _ _ (c.loop-counts.invariant.0 T J same) _ c.bits-k.ensures c.if-k-eq64.true)

pub overflow_cast-a : goal.overflow_cast-a
overflow_cast-a c = omega (arith, place_below 64 _ _ c.bits-k.ensures c.if-k-eq64.false)

pub overflow_add-a : goal.overflow_add-a
overflow_add-a c = omega (arith, c.loop-counts.invariant.1 _ (place_below 64 _ _ c.bits-k.ensures c.if-k-eq64.false) (place_set 64 _ _ c.bits-k.ensures c.if-k-eq64.false), c.requires.limited.0.atoms)

pub overflow_cast-k : goal.overflow_cast-k
overflow_cast-k c = omega (arith, place_below 64 _ _ c.bits-k.ensures c.if-k-eq64.false)

pub overflow_shr-new : goal.overflow_shr-new
overflow_shr-new c = place_below 64 _ _ c.bits-k.ensures c.if-k-eq64.false

pub turn_atom-requires : goal.turn_atom-requires
turn_atom-requires c = (
  c.requires.limited.0,
  c.requires.limited.1,
  omega (arith, c.requires.limited.2, c.lay_pair.auto.kept, c.loop-counts.invariant.2),
  c.loop-counts.invariant.1 _ (place_below 64 _ _ c.bits-k.ensures c.if-k-eq64.false) (place_set 64 _ _ c.bits-k.ensures c.if-k-eq64.false),
)

pub returns-in_err-turn_atom : goal.returns-in_err-turn_atom
returns-in_err-turn_atom c = λ T J same.
    let t = listed c.args.counts c.args.readers.now T in
    rw (raised _ _ c.from_residual.ensures.1) (pair_turned t c.args.kept.now c.requires.limited.2 (λ k. omega (arith, c.slice_known-1.given k)) c.args.j _ c.ranges.new.fits c.requires.limited.3 _
    c.lay_pair.ensures (c.requires.k_bound T) J same _ (c.old_pair.ensures t) _ _
    (turning_stray t J 64 _ c.args.j _ (omega (arith, c.requires.limited.2, c.lay_pair.auto.kept)) _ _ (c.loop-counts.invariant.0 T J same) _ c.bits-k.ensures c.if-k-eq64.false c.loop-counts.invariant.3 _ _ (c.turn_atom.ensures T J (place_read _ _ _ (same _ (place_below 64 _ _ c.bits-k.ensures c.if-k-eq64.false)))) c.in_err-turn_atom.was))

pub overflow_sub-x : goal.overflow_sub-x
overflow_sub-x c = place_some 64 _ _ c.bits-k.ensures c.if-k-eq64.false

pub loop-counts-smaller : goal.loop-counts-smaller
loop-counts-smaller c = omega (arith, ap length (place_off 64 _ _ c.bits-k.ensures c.if-k-eq64.false c.loop-counts.invariant.3))

pub loop-counts-preserved : goal.loop-counts-preserved
loop-counts-preserved c = (
  λ T J same.
      turning_more (listed c.args.counts c.args.readers.now T) J 64 _ c.args.j _ (omega (arith, c.requires.limited.2, c.lay_pair.auto.kept)) _ _ (c.loop-counts.invariant.0 T J same) _
      c.bits-k.ensures c.if-k-eq64.false c.loop-counts.invariant.3 _ _ (c.turn_atom.ensures T J (place_read _ _ _ (same _ (place_below 64 _ _ c.bits-k.ensures c.if-k-eq64.false)))) c.in_ok-turn_atom.was,
  λ k l e. c.loop-counts.invariant.1 k l (off_set _ k e),
  omega (arith, c.loop-counts.invariant.2, c.turn_atom.auto.kept),
  off_small 64 _ c.loop-counts.invariant.3,
)
