use Prim.Native.Nat.{◌+◌, ◌*◌}
use native.Mathlib.Omega.{arith}
use mathlib.Core.Path.{◌∙◌}
use Rattle.difference.specs.ChangedLaws.{word_more}
use Rattle.difference.specs.Found.{found_word, found_marked, found_most}
use Rattle.difference.proofs.last_change.Goals as goal

pub returns-then-old-new : goal.returns-then-old-new
returns-then-old-new c = found_word c.args.at c.args.kept.now c.args.candidate.now c.args.pairs c.args.marks.now c.args.d (c.if-old-new.true ∙ c.half_word-new.ensures) c.requires.found.1 c.requires.found.0

pub overflow_add-changes : goal.overflow_add-changes
overflow_add-changes c = omega (arith, c.requires.pairs_bound.0, found_most c.args.at c.args.kept.now c.args.candidate.now (2 * c.args.pairs) (2 * c.args.pairs + 1) _ c.args.d c.changed.result c.requires.found.0 (word_more c.args.at c.args.kept.now c.args.candidate.now (2 * c.args.pairs) c.changed.result (rw c.half_word-new.ensures at c.changed.ensures)))

pub returns : goal.returns
returns c = rw c.insert.ensures (found_marked c.args.at c.args.kept.now c.args.candidate.now c.args.pairs c.args.marks.now c.args.d c.changed.result c.requires.pairs_bound.3 (rw c.half_word-new.ensures at c.changed.ensures) c.requires.found.1 c.requires.found.0)
