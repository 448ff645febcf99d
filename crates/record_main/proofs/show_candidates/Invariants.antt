use Rattle.std.proofs.Common.{length, ◌≡◌}
use Rattle.load.specs.Candidate.{place_of}
use Rattle.record_main.proofs.show_candidates.Given as goal

abbrev pub invariant-loop-candidate : goal.invariant-loop-candidate
invariant-loop-candidate g l = (length l.words ≡ 8) × (l.at ≡ place_of l.file l.s.first l._candidate)
