-- The limits of a theory, and refusal 3 by its counts: 0 atoms, 1 nodes, 2 operand entries, 3 roots.
-- Assumes nothing.
use Rattle.std.specs.Prelude.{ℕ, ◌*◌, ◌≤◌, cond, ltb, Err}
use Rattle.theory.specs.declared.Counts.{Counts}
use Rattle.theory.specs.declared.Refusal.TheVariants.{PastLimit}
use Rattle.theory.specs.Admission.{Admission, admitted}

unfoldable pub limits_of : Counts → Admission
limits_of c =
    cond (ltb 65536 c.atoms) (Err (PastLimit 0))
    (cond (ltb 262144 c.nodes) (Err (PastLimit 1))
    (cond (ltb 1048576 c.operands) (Err (PastLimit 2))
    (cond (ltb 262144 c.roots) (Err (PastLimit 3)) admitted)))

-- no limit is passed
pub record Limited (c : Counts) : Type 0 where
  pub atoms : c.atoms ≤ 65536
  pub nodes : c.nodes ≤ 262144
  pub operands : c.operands ≤ 1048576
  pub roots : c.roots ≤ 262144

-- the lent tables are as long as the counts say
pub record Lent (c : Counts) (nodes operands roots : ℕ) : Type 0 where
  pub nodes_long : 3 * c.nodes ≤ nodes
  pub operands_long : c.operands ≤ operands
  pub roots_long : c.roots ≤ roots
