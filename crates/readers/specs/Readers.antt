-- Who reads a node's truth.
-- Assumes nothing.
use Rattle.std.specs.Prelude.{ℕ, suc, ◌+◌, ◌*◌, cond, List, [], ◌∷◌, ◌++◌, map, eqb, get_or, replicate}
use Rattle.base.specs.Places.{places}
use Rattle.theory.specs.Node.{node_at, operands_of}
use Rattle.theory.specs.declared.Counts.{Counts}
use Rattle.readers.specs.Joined.{joined}
use Rattle.readers.specs.Reader.{node_reader, producer_reader, root_reader}

-- how often k stands in a list
unfoldable pub occurrences : ℕ → List ℕ → ℕ
occurrences k [] = 0
occurrences k (o ∷ os) = cond (eqb o k) (suc (occurrences k os)) (occurrences k os)

-- node m, once for each occurrence of k among its operands
unfoldable pub reading_node : List ℕ → List ℕ → ℕ → ℕ → List ℕ
reading_node nodes operands k m = replicate (occurrences k (operands_of operands (node_at nodes m))) (node_reader m)

-- the readers of node k: nodes rising, then producers with body k rising, then root positions of k rising
unfoldable pub readers_of : Counts → List ℕ → List ℕ → List ℕ → List ℕ → ℕ → ℕ → List ℕ
readers_of t nodes operands roots producers p k =
    joined (reading_node nodes operands k) 0 t.nodes
    ++ (map producer_reader (places (λ i. eqb (get_or producers (4 * i + 1) 0) (k + 1)) 0 p)
    ++ map root_reader (places (λ i. eqb (get_or roots i 0) k) 0 t.roots))
