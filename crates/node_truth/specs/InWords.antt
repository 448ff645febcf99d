-- What the words of a kept evaluation say of a node and of an atom.
-- Assumes nothing.
use Rattle.std.specs.Prelude.{ℕ, ◌+◌, ◌/◌, ◌%◌, Bool, not, cond, ◌&&◌, ◌||◌, List, eqb, ltb, leb, get_or, Option, Some, None}
use Rattle.theory.specs.Node.{span}
use Rattle.theory.specs.declared.Counts.{Counts}
use Rattle.words.specs.Bit.{bit}
use Rattle.kept.specs.Seen.{group_seen}
use Rattle.kept_laws.specs.Given.{candidate_at}

-- node o is true
unfoldable pub true_in : List ℕ → ℕ → Bool
true_in ws o = not (eqb (get_or ws (8 + o) 0) 0)

-- atom a is in the candidate
unfoldable pub present_in : Counts → List ℕ → ℕ → Bool
present_in t ws a = bit (get_or ws (candidate_at t + a / 32) 0) (a % 32)

-- atom a as a node
unfoldable pub atom_seen : Counts → List ℕ → ℕ → Option Bool
atom_seen t ws a = cond (ltb a t.atoms) (Some (present_in t ws a)) None

-- Implies at node k
unfoldable pub implies_seen : ℕ → (ℕ → Bool) → ℕ → ℕ → Option Bool
implies_seen k v l r = cond (ltb l k && ltb r k) (Some (not (v l) || v r)) None

-- And or Or, in a table of `size` entries
unfoldable pub span_seen : ℕ → ℕ → (ℕ → Bool) → Bool → List ℕ → ℕ → ℕ → Option Bool
span_seen size k v d operands start count = cond (leb (start + count) size) (group_seen k v d (span operands start count)) None
