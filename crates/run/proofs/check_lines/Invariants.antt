use Prim.Native.Nat.{◌≤◌}
use mathlib.Core.Path.{◌≡◌}
use lib.ListN.{length, replicate}
use Rattle.load.specs.Candidate.{place_of}
use Rattle.evaluate.specs.Checks.{tables_of}
use Rattle.run.specs.Text.{candidates_in}
use Rattle.run.specs.CheckLaws.{Going}
use Rattle.run.proofs.check_lines.Given as goal

abbrev pub invariant-loop-i : goal.invariant-loop-i
invariant-loop-i l = (l.i ≤ l.s.candidates) × (length l.words ≡ 8) × (l.place ≡ place_of l.file l.s.first l.i) × (length l.out ≡ length l.initial.out) × (length l.kept ≡ 4112)
    × Going (tables_of l.s.counts l.plan l.nodes l.operands l.roots l.producers l.readers) (candidates_in l.file) (replicate 4112 0) l.initial.out l.at l.i l.kept l.end l.out
