use native.Mathlib.Omega.{arith}
use native.Mathlib.Nat.{div-add-mod'}
use native.Mathlib.Numerals.{add-one}
use mathlib.Core.Path.{refl}
use Prim.Native.Nat.{◌+◌}
use Rattle.record.specs.File.{theory_file}
use Rattle.record.proofs.Judging.{contents_of, sound-is}
use Rattle.load.specs.Candidate.{place_of}
use Rattle.load.proofs.Candidates.{sound_candidates}
use borrow.Author.Rules.{rules}
use Rattle.record_main.proofs.show_candidates.Goals as goal

pub loop-candidate-init : goal.loop-candidate-init
unfolding place_of
loop-candidate-init g c = (search rules, refl)

pub candidate-at-requires : goal.candidate-at-requires
candidate-at-requires g c = (
  rw c.loop-candidate.invariant.1 ((sound_candidates c.args.file.now c.args.s (contents_of (theory_file c.args.file.now)) (sound-is (theory_file c.args.file.now) c.args.s c.requires.0)).stands c.loop-candidate._candidate (omega (arith, c.loop-candidate-test.true))),
  search rules,
  omega (arith, c.loop-candidate.invariant.0, c.requires.1, div-add-mod' (c.args.s.counts.atoms + 63) 64),
)

pub loop-candidate-preserved : goal.loop-candidate-preserved
unfolding place_of
loop-candidate-preserved g c = (search rules, rw (add-one, ← c.loop-candidate.invariant.1) c.candidate-at.ensures.0)
