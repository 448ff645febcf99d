-- The greatest value that some operands have, and what a loop that carries it keeps.
-- Assumes nothing.
use Prim.Native.Nat.{ℕ, suc, ◌+◌, ◌-◌, ◌<◌, ◌≤◌, max}
use native.Mathlib.Omega.{arith}
use Rattle.std.specs.Prelude.{◌≡◌, List, map, length, get_or}
use Rattle.std.proofs.Math.Path.{sym}
use Rattle.std.proofs.Common.{◌∙◌}
use Rattle.theory.specs.Node.{span}
use Rattle.theory.specs.NodeRank.{greatest}
use Rattle.theory.specs.Spans.{span_more}

-- of the count operands from start on
unfoldable pub greatest_of : List ℕ → List ℕ → ℕ → ℕ → ℕ
greatest_of values operands start count = greatest (map (λ o. get_or values o 0) (span operands start count))

module _ (values operands : List ℕ) (i e value whole : ℕ) (rest : whole ≡ max value (greatest_of values operands i (e - i))) where
  pub greatest_more : (o v x : ℕ) → i < e → e ≤ length operands → o ≡ get_or operands i 0 → v ≡ get_or values o 0 → x ≡ max value v
      → whole ≡ max x (greatest_of values operands (i + 1) (e - (i + 1)))
  unfolding greatest greatest_of
  greatest_more o v x h l p q r =
      let left : e - i ≡ suc (e - (i + 1)) = omega arith in
      rest ∙ rw (left, span_more operands i (e - (i + 1)) (omega arith), r, q, p) (omega arith)

  pub greatest_done : e ≤ i → value ≡ whole
  unfolding greatest greatest_of span
  greatest_done h = let left : e - i ≡ 0 = omega arith in sym (rest ∙ rw left (omega arith))
