-- Worked tables: document 01's theory, and And(0, 0), whose one operand is listed twice.
-- Assumes nothing.
use Prim.Native.Nat.{ℕ}
use mathlib.Core.Path.{◌≡◌, refl}
use mathlib.Core.List.{[], ◌∷◌}
use Rattle.base.specs.Places.{places}
use Rattle.theory.specs.Node.{node_at, span, operands_of}
use Rattle.theory.specs.declared.Counts.{Counts}
use Rattle.readers.specs.Joined.{joined}
use Rattle.readers.specs.Laid.{start_of, laid, laid_over}
use Rattle.readers.specs.Reader.{packed}
use Rattle.readers.specs.Readers.{occurrences, reading_node, readers_of}
use Rattle.readers.specs.AtomNodes.{atom_nodes_of}
use Rattle.readers.specs.ReaderTable.{list_of, built}

abbrev counts : ℕ → ℕ → ℕ → ℕ → Counts
counts a n o r = record { stamp = 7; atoms = a; nodes = n; operands = o; roots = r }

-- nodes Atom 0, Atom 1, Implies(0, 1), False, Implies(0, 3), Or(0, 4); roots 5, 2; producer 0 without body, producer 1 with body 0.
-- Node 0 is read by nodes 2, 4 and 5 and by producer 1, nodes 2 and 5 by root positions 1 and 0. A last word is not altered.
pub drawing :
    built (counts 2 6 2 2) (0 ∷ 0 ∷ 0 ∷ 0 ∷ 1 ∷ 0 ∷ 2 ∷ 0 ∷ 1 ∷ 1 ∷ 0 ∷ 0 ∷ 2 ∷ 0 ∷ 3 ∷ 4 ∷ 0 ∷ 2 ∷ []) (0 ∷ 4 ∷ []) (5 ∷ 2 ∷ [])
    (0 ∷ 0 ∷ 5 ∷ 1 ∷ 1 ∷ 1 ∷ 2 ∷ 0 ∷ []) 2
    (99 ∷ 99 ∷ 99 ∷ 99 ∷ 99 ∷ 99 ∷ 99 ∷ 99 ∷ 99 ∷ 99 ∷ 99 ∷ 99 ∷ 99 ∷ 99 ∷ 99 ∷ 99 ∷ 99 ∷ 99 ∷ 99 ∷ 99 ∷ 99 ∷ 99 ∷ [])
    ≡ 10 ∷ 14 ∷ 15 ∷ 16 ∷ 17 ∷ 18 ∷ 19 ∷ 19 ∷ 20 ∷ 21 ∷ 2 ∷ 4 ∷ 5 ∷ 9223372036854775809 ∷ 2 ∷ 13835058055282163713 ∷ 4 ∷ 5 ∷ 13835058055282163712 ∷ 0 ∷ 1 ∷ 99 ∷ []
unfolding built laid_over laid start_of list_of readers_of reading_node occurrences atom_nodes_of packed joined places node_at span operands_of
drawing = refl

-- nodes Atom 0, And(0, 0)
pub twice : readers_of (counts 1 2 2 0) (0 ∷ 0 ∷ 0 ∷ 3 ∷ 0 ∷ 2 ∷ []) (0 ∷ 0 ∷ []) [] [] 0 0 ≡ 1 ∷ 1 ∷ []
unfolding readers_of reading_node occurrences packed joined places node_at span operands_of
twice = refl
