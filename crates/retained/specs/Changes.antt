-- The parts of a step and of the walk's start that one call makes.
-- Assumes nothing.
use Rattle.std.specs.Prelude.{ℕ, ◌*◌, Bool, cond, ◌&&◌, eqb, get_or, Option, Some}
use Rattle.words.specs.Next.{next}
use Rattle.kept.specs.CountedSet.{and_then, with_member}
use Rattle.kept.specs.Worklist.{with_first, behind, remembering, advance, forgotten, without_first}
use Rattle.kept.specs.Tables.{Tables, atom_count, node_count}
use Rattle.kept.specs.Evaluation.{Evaluation}
use Rattle.kept.specs.Parts.{with_worklist, with_support}
use Rattle.kept.specs.Step.{missing_by}

-- node m behind the first of the worklist
unfoldable pub waiting : Tables → ℕ → Evaluation → Option Evaluation
waiting T m e = and_then (behind (node_count T) e.worklist m) (λ w. Some (with_worklist e w))

-- node m, which was the first
unfoldable pub put_behind : Tables → ℕ → Evaluation → Option Evaluation
put_behind T m e = and_then (and_then (behind (node_count T) e.worklist m) (λ v. Some (remembering m v))) (λ w. Some (with_worklist e w))

-- where node m enters, node o behind the first: m itself, or the first that it comes before
unfoldable pub other_behind : Tables → ℕ → ℕ → Evaluation → Option Evaluation
other_behind T m o e = cond (eqb o m) (waiting T m e) (put_behind T o e)

-- the lowest member of word q in the place of the first
unfoldable pub advanced_to : Tables → ℕ → Evaluation → Option Evaluation
advanced_to T q e = and_then (advance (node_count T) e.worklist q (next 32 e.worklist.others.members (32 * q))) (λ w. Some (with_worklist e w))

-- the first off the worklist, where no other waits
unfoldable pub drained : Tables → Evaluation → Evaluation
drained T e = with_worklist e (forgotten (with_first e.worklist (node_count T)))

-- the first off the worklist
unfoldable pub dequeued : Tables → Evaluation → Option Evaluation
dequeued T e = and_then (without_first (node_count T) e.worklist) (λ w. Some (with_worklist e w))

-- atom a missing or not
unfoldable pub missing_turned : Tables → ℕ → Bool → Evaluation → Option Evaluation
missing_turned T a x e = and_then (with_member (atom_count T) e.missing a x) (λ m. Some (with_support e e.support m))

-- atom a missing or not, as its support goes from s to n
unfoldable pub missing_moved : Tables → ℕ → ℕ → ℕ → Evaluation → Option Evaluation
missing_moved T a s n e = and_then (missing_by T a s n e) (λ m. Some (with_support e e.support m))

-- atom a, to be in the candidate or not: missing by its support
unfoldable pub presence_turned : Tables → ℕ → Bool → Evaluation → Option Evaluation
presence_turned T a x e = missing_turned T a (x && eqb (get_or e.support a 0) 0) e
