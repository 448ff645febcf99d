-- Words that hold the classes of the nodes at their front.
-- Assumes nothing.
use Rattle.std.specs.Prelude.{ℕ, ◌<◌, ◌≡◌, List, get_or}
use Rattle.theory.specs.declared.Counts.{Counts}
use Rattle.compile.specs.ClassWord.{class_words}

pub record Classed (t : Counts) (nodes operands words : List ℕ) : Type 0 where
  pub word : (k : ℕ) → k < t.nodes → get_or words k 0 ≡ get_or (class_words nodes operands t.nodes) k 0
