-- What the view of a node in well-formed tables says of what it names.
-- Assumes nothing.
use Rattle.std.specs.Prelude.{ℕ, ◌<◌, ◌≤◌, ◌≡◌, List}
use Rattle.std.proofs.Common.{arith}
use Rattle.theory.specs.Node.{node_at}
use Rattle.theory.specs.WellFormed.{SpanFormed, NodeTables}
use Rattle.theory.specs.Admission.{span_start}
use Rattle.theory.specs.Spans.{Indexed, each_indexed}
use Rattle.theory.specs.declared.Counts.{Counts}
use Rattle.theory.specs.declared.Node.TheVariants.{Atom, Implies, And, Or}

module _ (t : Counts) (nodes operands : List ℕ) (tables : NodeTables t nodes operands) (k : ℕ) (l : k < t.nodes) where
  pub atom_below : (a : ℕ) → node_at nodes k ≡ Atom a → a < t.atoms
  atom_below a e = rw e at (tables.formed k l)

  pub left_below : (x y : ℕ) → node_at nodes k ≡ Implies x y → x < k
  left_below x y e = (rw e at (tables.formed k l)).0

  pub right_below : (x y : ℕ) → node_at nodes k ≡ Implies x y → y < k
  right_below x y e = (rw e at (tables.formed k l)).1

  span_indexed : (n s c : ℕ) → k ≤ n → SpanFormed t operands (span_start nodes k) k s c → Indexed operands n s c
  span_indexed n s c m f = each_indexed operands n k s c m (omega (arith, f.fits, tables.operands_long)) f.lower

  pub and_indexed : (n s c : ℕ) → k ≤ n → node_at nodes k ≡ And s c → Indexed operands n s c
  and_indexed n s c m e = span_indexed n s c m (rw e at (tables.formed k l))

  pub or_indexed : (n s c : ℕ) → k ≤ n → node_at nodes k ≡ Or s c → Indexed operands n s c
  or_indexed n s c m e = span_indexed n s c m (rw e at (tables.formed k l))
