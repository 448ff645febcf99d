-- What an entry of a node's list must say: a node above it, a producer or a root position, each one that there is.
-- Assumes nothing.
use Rattle.std.specs.Prelude.{ℕ, ◌<◌}
use Rattle.theory.specs.declared.Counts.{Counts}
use Rattle.readers.specs.declared.Reading.{Reading}
use Rattle.readers.specs.declared.Reading.TheVariants.{Node, Producer, Root, Unknown}

abbrev pub Proper : Counts → ℕ → ℕ → Reading → Type 0
Proper t p k (Node m) = (k < m) × (m < t.nodes)
Proper t p k (Producer i) = i < p
Proper t p k (Root i) = i < t.roots
Proper t p k Unknown = ⊥
