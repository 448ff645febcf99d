-- One record of a theory file: the refusal it gives, in the order 1, 2, 3, 6, 4, 5, 7, 8, or the cursor past it.
-- Assumes nothing.
use Rattle.std.specs.Prelude.{ℕ, ◌+◌, Bool, true, false, not, List, eqb, leb, length, Result, Ok, Err, is_ok}
use Rattle.theory.specs.Limits.{limits_of}
use Rattle.theory.specs.Admission.{all_below}
use Rattle.theory.specs.declared.Refusal.{Refusal}
use Rattle.theory.specs.declared.Refusal.TheVariants.{BadKind, CutRecord, PastLimit, BadAtom, BadOperand, NoOperands, BadRoot, NotRising}
use Rattle.record.specs.Mark.{mark_at, in_order}
use Rattle.record.specs.Rising.{rising}
use Rattle.record.specs.Layout.{record_end, values_of}
use Rattle.record.specs.Passed.{counts_after, passed}
use Rattle.record.specs.declared.Cursor.{Cursor}
use Rattle.record.specs.declared.Mark.{Mark}
use Rattle.record.specs.declared.Mark.TheVariants.{Theory, Atom, False, Implies, And, Or, Root, Candidate, Unknown}

-- what is left, unless the test fails
unfoldable pub unless : Bool → Refusal → Result Cursor Refusal → Result Cursor Refusal
unless true r next = next
unless false r next = Err r

-- And or Or: 6, 5
unfoldable pub judged_group : Cursor → List ℕ → Result Cursor Refusal → Result Cursor Refusal
judged_group c vs next = unless (not (eqb (length vs) 0)) (NoOperands c.records) (unless (all_below c.counts.nodes vs) (BadOperand c.records) next)

-- 6, 4, 5, 7, 8 by the values of the record
unfoldable pub judged_values : Cursor → Mark → List ℕ → Result Cursor Refusal → Result Cursor Refusal
judged_values c Theory vs next = next
judged_values c Atom vs next = unless (all_below c.counts.atoms vs) (BadAtom c.records) next
judged_values c False vs next = next
judged_values c Implies vs next = unless (all_below c.counts.nodes vs) (BadOperand c.records) next
judged_values c And vs next = judged_group c vs next
judged_values c Or vs next = judged_group c vs next
judged_values c Root vs next = unless (all_below c.counts.nodes vs) (BadRoot c.records) next
judged_values c Candidate vs next = unless (all_below c.counts.atoms vs) (BadAtom c.records) (unless (rising vs) (NotRising c.records) next)
judged_values c Unknown vs next = next

-- 3, then those, of a record that is whole
unfoldable pub judged_whole : Cursor → Mark → List ℕ → ℕ → Result Cursor Refusal
judged_whole c mark vs end =
    unless (is_ok (limits_of (counts_after c.counts mark vs))) (PastLimit c.records)
    (judged_values c mark vs (Ok (passed c mark (counts_after c.counts mark vs) end)))

-- 1, 2, then the others, of a record whose mark is whole
unfoldable pub judged_marked : List ℕ → Cursor → Mark → Result Cursor Refusal
judged_marked file c mark =
    unless (in_order mark c.stage) (BadKind c.records)
    (unless (leb (record_end file c.at mark) (length file)) (CutRecord c.records)
    (judged_whole c mark (values_of file c.at mark) (record_end file c.at mark)))

-- the record that begins at the cursor; 2 if its mark is cut
unfoldable pub judged : List ℕ → Cursor → Result Cursor Refusal
judged file c = unless (leb (c.at + 2) (length file)) (CutRecord c.records) (judged_marked file c (mark_at file c.at))
