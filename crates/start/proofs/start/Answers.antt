use Rattle.base.specs.Raised.{raised}
use Prim.Native.Nat.{◌+◌}
use native.Mathlib.Omega.{arith}
use mathlib.Core.Path.{refl, ◌∙◌}
use Rattle.words.specs.Sets.{member}
use Rattle.words.specs.NextLaws.{next_is}
use Rattle.kept_laws.specs.Given.{listed}
use Rattle.start.specs.PairLaws.{place_member}
use Rattle.start.specs.StartLaws.{starting_first, starting_marked, starting_done, starting_within, starting_stray, starting_more}
use Rattle.start.proofs.start.Goals as goal

pub loop-j-init : goal.loop-j-init
loop-j-init c = (λ T. starting_first (listed c.args.counts c.args.readers.now T) c.args.candidate.now c.args.kept.now c.requires.limited.3 c.requires.within.0 (c.requires.within.1 (listed c.args.counts c.args.readers.now T)) c.args.first c.requires.between.0, refl)

pub bounds-candidate-j : goal.bounds-candidate-j
bounds-candidate-j c = omega (arith, c.loop-j-test.true, c.requires.between.2, c.requires.limited.1)

pub turn_pair-requires : goal.turn_pair-requires
turn_pair-requires c = record { limited = (c.requires.limited.0, c.requires.limited.2, omega (arith, c.requires.limited.3, c.loop-j.invariant.1), omega (arith, c.loop-j-test.true, c.requires.between.2)); k_bound = λ T. starting_within (listed c.args.counts c.args.readers.now T) c.args.candidate.now c.args.kept.now c.requires.limited.3 c.requires.within.0 (c.requires.within.1 (listed c.args.counts c.args.readers.now T)) _ c.loop-j.j (c.loop-j.invariant.0 T) }

pub returns-in_err-turn_pair : goal.returns-in_err-turn_pair
returns-in_err-turn_pair c = λ T. rw (raised _ _ c.from_residual.ensures.1) (starting_stray (listed c.args.counts c.args.readers.now T) c.args.candidate.now c.args.kept.now c.requires.limited.3 c.requires.within.0 (c.requires.within.1 (listed c.args.counts c.args.readers.now T)) _ c.loop-j.j (c.loop-j.invariant.0 T) (omega (arith, c.loop-j-test.true, c.requires.between.2)) _ _ (c.turn_pair.ensures T (member 64 c.args.candidate.now) (place_member 64 c.args.candidate.now c.loop-j.j)) c.in_err-turn_pair.was)

pub returns-then-j-end : goal.returns-then-j-end
returns-then-j-end c = λ T. starting_done (listed c.args.counts c.args.readers.now T) c.args.candidate.now c.args.kept.now c.requires.limited.3 c.requires.within.0 (c.requires.within.1 (listed c.args.counts c.args.readers.now T)) _ (c.loop-j.j + 1) (starting_more (listed c.args.counts c.args.readers.now T) c.args.candidate.now c.args.kept.now c.requires.limited.3 c.requires.within.0 (c.requires.within.1 (listed c.args.counts c.args.readers.now T)) _ c.loop-j.j (c.loop-j.invariant.0 T) (omega (arith, c.loop-j-test.true, c.requires.between.2)) _ _ (c.turn_pair.ensures T (member 64 c.args.candidate.now) (place_member 64 c.args.candidate.now c.loop-j.j)) c.in_ok-turn_pair.was) c.args.end (omega (arith, c.if-j-end.true)) c.requires.between.1

pub next-j-requires : goal.next-j-requires
next-j-requires c = record { from_bound = omega (arith, c.loop-j-test.true, c.requires.between.2, c.requires.limited.5); words_bound = omega (arith, c.requires.limited.6) }

pub loop-j-smaller : goal.loop-j-smaller
loop-j-smaller c = omega (arith, c.loop-j-test.true, c.next-j.ensures, (next_is 64 c.args.marks.now (c.loop-j.j + 1)).from)

pub loop-j-preserved : goal.loop-j-preserved
loop-j-preserved c = (λ T. starting_marked (listed c.args.counts c.args.readers.now T) c.args.candidate.now c.args.kept.now c.requires.limited.3 c.requires.within.0 (c.requires.within.1 (listed c.args.counts c.args.readers.now T)) _ c.args.marks.now (c.loop-j.j + 1) _ (starting_more (listed c.args.counts c.args.readers.now T) c.args.candidate.now c.args.kept.now c.requires.limited.3 c.requires.within.0 (c.requires.within.1 (listed c.args.counts c.args.readers.now T)) _ c.loop-j.j (c.loop-j.invariant.0 T) (omega (arith, c.loop-j-test.true, c.requires.between.2)) _ _ (c.turn_pair.ensures T (member 64 c.args.candidate.now) (place_member 64 c.args.candidate.now c.loop-j.j)) c.in_ok-turn_pair.was) c.requires.limited.4 c.next-j.ensures, c.turn_pair.auto.kept ∙ c.loop-j.invariant.1)

pub returns : goal.returns
returns c = λ T. starting_done (listed c.args.counts c.args.readers.now T) c.args.candidate.now c.args.kept.now c.requires.limited.3 c.requires.within.0 (c.requires.within.1 (listed c.args.counts c.args.readers.now T)) _ _ (c.loop-j.invariant.0 T) c.args.end (omega (arith, c.loop-j-test.false)) c.requires.between.1
