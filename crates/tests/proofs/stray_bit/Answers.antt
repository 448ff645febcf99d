use mathlib.Core.Path.{sym}
use lib.Seq.{length-take-le}
use Rattle.kept.specs.SetOf.{words64}
use Rattle.tests.specs.TestsLaws.{searchable, stray_found, stray_none, stray_full, stray_clear}
use Rattle.tests.proofs.stray_bit.Goals as goal

pub returns-then-counts-eq0 : goal.returns-then-counts-eq0
returns-then-counts-eq0 c = stray_full c.args.counts c.args.candidate.now c.requires.1 c.if-counts-eq0.true

pub returns-then-candidate-counts-eq0 : goal.returns-then-candidate-counts-eq0
returns-then-candidate-counts-eq0 c = stray_clear c.args.counts c.args.candidate.now c.requires.1 c.if-counts-eq0.false c.if-candidate-counts-eq0.true

pub slice_bounds-next-end : goal.slice_bounds-next-end
slice_bounds-next-end c = sym (length-take-le (words64 c.args.counts.atoms) c.args.candidate.now c.requires.1)

pub next-i-requires : goal.next-i-requires
next-i-requires c = let r = searchable c.args.counts c.args.candidate.now c.requires.1 c.requires.0 in record { from_bound = r.0; words_bound = r.1 }

pub returns-then-i-n : goal.returns-then-i-n
returns-then-i-n c = stray_found c.args.counts c.args.candidate.now c.requires.1 _ c.next-i.ensures c.if-i-n.true

pub returns : goal.returns
returns c = stray_none c.args.counts c.args.candidate.now c.requires.1 _ c.next-i.ensures c.if-i-n.false
