-- What a run answers and leaves in the output: the text at its front, or 0 and nothing altered.
-- Assumes nothing.
use Rattle.std.specs.Prelude.{ℕ, cond, List, ◌++◌, leb, length, drop}
use Rattle.run.specs.Text.{text_of}

pub record Running : Type 0 where
  pub answer : ℕ
  pub output : List ℕ

abbrev pub running : ℕ → List ℕ → Running
running answer output = record { answer = answer; output = output }

unfoldable pub run_of : List ℕ → List ℕ → Running
run_of file out = cond (leb (length (text_of file)) (length out)) (running (length (text_of file)) (text_of file ++ drop (length (text_of file)) out)) (running 0 out)
