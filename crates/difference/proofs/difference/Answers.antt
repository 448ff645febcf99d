use Prim.Native.Nat.{◌+◌, ◌*◌, ◌/◌}
use native.Mathlib.Omega.{arith}
use Rattle.difference.specs.Found.{found_all}
use Rattle.difference.proofs.difference.Goals as goal

pub returns-then-words-pairs : goal.returns-then-words-pairs
returns-then-words-pairs c = let r = let g = c.args in found_all g.counts g.kept.now g.candidate.now _ _ (2 * ((g.counts.atoms + 31) / 32 / 2)) (omega (arith, c.if-words-pairs.true)) c.requires.2 (rw c.candidate_at-at.ensures at c.all_changes-d.ensures.0) in record { changes_value = r.0; marked = r.1.0; between = r.1.1 }

pub returns : goal.returns
returns c = let r = let g = c.args in found_all g.counts g.kept.now g.candidate.now _ _ (2 * ((g.counts.atoms + 31) / 32 / 2) + 1) (omega (arith, c.if-words-pairs.false)) c.requires.2 (rw c.candidate_at-at.ensures at c.last_change.ensures) in record { changes_value = r.0; marked = r.1.0; between = r.1.1 }
