use native.Mathlib.Omega.{arith}
use Rattle.theory.proofs.Steps.{view_is, view_unknown}
use borrow.Author.Rules.{rules}
use Rattle.theory.proofs.view.Goals as goal

pub returns-in-0 : goal.returns-in-0
returns-in-0 c = record { value = view_is _ _ _ _ _ _ c.word-kind.ensures.value c.word-a.ensures.value c.word-b.ensures.value (rw c.in-0.is); small = search rules }

pub returns-in-1 : goal.returns-in-1
returns-in-1 c = record { value = view_is _ _ _ _ _ _ c.word-kind.ensures.value c.word-a.ensures.value c.word-b.ensures.value (rw c.in-1.is); small = search rules }

pub returns-in-2 : goal.returns-in-2
returns-in-2 c = record { value = view_is _ _ _ _ _ _ c.word-kind.ensures.value c.word-a.ensures.value c.word-b.ensures.value (rw c.in-2.is); small = search rules }

pub returns-in-3 : goal.returns-in-3
returns-in-3 c = record { value = view_is _ _ _ _ _ _ c.word-kind.ensures.value c.word-a.ensures.value c.word-b.ensures.value (rw c.in-3.is); small = search rules }

pub returns-in-4 : goal.returns-in-4
returns-in-4 c = record { value = view_is _ _ _ _ _ _ c.word-kind.ensures.value c.word-a.ensures.value c.word-b.ensures.value (rw c.in-4.is); small = search rules }

pub returns-in_default : goal.returns-in_default
returns-in_default c = record { value = view_is _ _ _ _ _ _ c.word-kind.ensures.value c.word-a.ensures.value c.word-b.ensures.value ((view_unknown c.word-kind.result _ _ (omega arith))); small = search rules }
