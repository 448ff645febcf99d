-- How a record lies in the file: its mark, a count where it has one, its values.
-- Assumes nothing.
use Rattle.std.specs.Prelude.{ℕ, ◌+◌, ◌*◌, Bool, true, false, cond, List}
use Rattle.record.specs.Number.{number, numbers}
use Rattle.record.specs.declared.Mark.{Mark}
use Rattle.record.specs.declared.Mark.TheVariants.{Theory, Atom, False, Implies, And, Or, Root, Candidate, Unknown}

-- the values of these records come after a count of them
abbrev pub counted : Mark → Bool
counted Theory = false
counted Atom = false
counted False = false
counted Implies = false
counted And = true
counted Or = true
counted Root = false
counted Candidate = true
counted Unknown = false

-- how many values a record without a count has
abbrev pub arity : Mark → ℕ
arity Theory = 2
arity Atom = 1
arity False = 0
arity Implies = 2
arity And = 0
arity Or = 0
arity Root = 1
arity Candidate = 0
arity Unknown = 0

module _ (file : List ℕ) (at : ℕ) (mark : Mark) where
  -- how many values the record that begins at `at` has, where they begin, and where it ends: past the file if its count is cut
  unfoldable pub value_count : ℕ
  value_count = cond (counted mark) (number file (at + 2)) (arity mark)

  unfoldable pub values_start : ℕ
  values_start = cond (counted mark) (at + 6) (at + 2)

  unfoldable pub record_end : ℕ
  record_end = values_start + 4 * value_count

  unfoldable pub values_of : List ℕ
  values_of = numbers file values_start value_count
