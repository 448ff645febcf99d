-- The rank check: 13 if there is not one rank an atom, each below `atoms`; then, in producer order, 14 if a Positive body's highest rank is not below the head's.
-- Assumes nothing.
use Rattle.std.specs.Prelude.{ℕ, zero, suc, not, cond, ◌&&◌, List, eqb, ltb, length, get_or, Option, Some, None, Result, Ok, Err}
use Rattle.theory.specs.Admission.{all_below, first_refusal, Admission, admitted}
use Rattle.theory.specs.NodeRank.{node_highests}
use Rattle.theory.specs.declared.Counts.{Counts}
use Rattle.theory.specs.declared.Refusal.TheVariants.{RankShape, RankOrder}
use Rattle.compile.specs.Producer.{produced}
use Rattle.ranks.specs.Dependency.{positive}
use Rattle.theory.specs.declared.Refusal.{Refusal}
use Rattle.compile.specs.declared.Producer.{Producer}

-- a body word is a node + 1, or 0 for none; `high` holds the highest rank of each node
unfoldable pub body_order : List ℕ → List ℕ → List ℕ → ℕ → ℕ → Admission
body_order classes high ranks head zero = admitted
body_order classes high ranks head (suc b) =
    cond (positive classes b && not (ltb (get_or high b 0) (get_or ranks head 0))) (Err (RankOrder head)) admitted

unfoldable pub produced_order : List ℕ → List ℕ → List ℕ → Result (Option Producer) Refusal → Admission
produced_order classes high ranks (Ok None) = admitted
produced_order classes high ranks (Ok (Some p)) = body_order classes high ranks p.head p.body
produced_order classes high ranks (Err r) = admitted

-- of the root at position i
unfoldable pub order_at : List ℕ → List ℕ → List ℕ → List ℕ → List ℕ → List ℕ → ℕ → Admission
order_at nodes operands classes roots high ranks i = produced_order classes high ranks (produced nodes operands classes (get_or roots i 0))

unfoldable pub order_by : Counts → List ℕ → List ℕ → List ℕ → List ℕ → List ℕ → List ℕ → Admission
order_by t nodes operands classes roots high ranks = first_refusal (order_at nodes operands classes roots high ranks) 0 t.roots

unfoldable pub rank_order : Counts → List ℕ → List ℕ → List ℕ → List ℕ → List ℕ → Admission
rank_order t nodes operands classes roots ranks = order_by t nodes operands classes roots (node_highests (λ a. get_or ranks a 0) nodes operands t.nodes) ranks

unfoldable pub rank_check : Counts → List ℕ → List ℕ → List ℕ → List ℕ → List ℕ → Admission
rank_check t nodes operands classes roots ranks =
    cond (eqb (length ranks) t.atoms && all_below t.atoms ranks) (rank_order t nodes operands classes roots ranks) (Err RankShape)
