-- The values of a file's nodes, found again in its tables.
-- Assumes nothing.
use Prim.Native.Nat.{ℕ, zero, suc, ◌+◌, ◌<◌}
use native.Mathlib.Numerals.{unary_clauses}
use native.Mathlib.Omega.{arith}
use mathlib.Core.Path.{◌≡◌, refl, sym, ap, ◌∙◌}
use mathlib.Core.List.{List, [], ◌∷◌, ◌++◌, flat_map}
use lib.ListN.{length, get_or, drop}
use lib.Seq.{take-append_seam, ext_get_or}
use Rattle.theory.specs.Node.{node_at, span}
use Rattle.theory.specs.declared.Node as view
use Rattle.theory.specs.declared.Node.TheVariants as views
use Rattle.encoding.specs.Value.{Node, Atom, False, Implies, And, Or}
use Rattle.encoding.specs.Held.{operand_entries, node_words, node_table}
use Rattle.encoding.proofs.Numbers.{drop_past}

-- the value of a node of the tables
unfoldable pub value_of : List ℕ → view.Node → Node
value_of operands (views.Atom a) = Atom a
value_of operands views.False = False
value_of operands (views.Implies l r) = Implies l r
value_of operands (views.And s c) = And (span operands s c)
value_of operands (views.Or s c) = Or (span operands s c)
value_of operands views.Unknown = False

-- past the three words of the first node
words_past : (x y z : ℕ) (ws : List ℕ) (k : ℕ) → node_at (x ∷ y ∷ z ∷ ws) (suc k) ≡ node_at ws k
unfolding node_at
words_past x y z ws k = simp unary_clauses refl

node_past : (start : ℕ) (n : Node) (ws : List ℕ) (k : ℕ) → node_at (node_words start n ++ ws) (suc k) ≡ node_at ws k
unfolding node_words
node_past start (Atom a) = words_past 0 a 0
node_past start False = words_past 1 0 0
node_past start (Implies l r) = words_past 2 l r
node_past start (And os) = words_past 3 start (length os)
node_past start (Or os) = words_past 4 start (length os)

-- the words of a node and its entries say its value
first_held : (operands : List ℕ) (start : ℕ) (n : Node) (ws rest : List ℕ) → drop start operands ≡ operand_entries n ++ rest
    → value_of operands (node_at (node_words start n ++ ws) 0) ≡ n
unfolding value_of node_at node_words operand_entries span
first_held operands start (Atom a) ws rest e = refl
first_held operands start False ws rest e = refl
first_held operands start (Implies l r) ws rest e = refl
first_held operands start (And os) ws rest e = rw (e, take-append_seam os rest)
first_held operands start (Or os) ws rest e = rw (e, take-append_seam os rest)

-- the entries of these nodes stand in the operand table from `start` on
value-held : (operands : List ℕ) (start : ℕ) (ns : List Node) (k : ℕ) → drop start operands ≡ flat_map operand_entries ns → k < length ns
    → value_of operands (node_at (node_table start ns) k) ≡ get_or ns k False
unfolding node_table flat_map
value-held operands start [] k e h = absurd (omega arith)
value-held operands start (n ∷ ns) zero e h = first_held operands start n _ _ e
value-held operands start (n ∷ ns) (suc k) e h =
    ap (value_of operands) (node_past start n _ k)
    ∙ value-held operands (start + length (operand_entries n)) ns k (drop_past operands start (operand_entries n) _ e) (omega arith)

-- node k
pub node_held : (ns : List Node) (k : ℕ) → k < length ns → value_of (flat_map operand_entries ns) (node_at (node_table 0 ns) k) ≡ get_or ns k False
node_held ns k l = value-held (flat_map operand_entries ns) 0 ns k refl l

-- as many nodes with the same tables are the same
pub nodes_only : (ns ms : List Node) → length ns ≡ length ms → node_table 0 ns ≡ node_table 0 ms → flat_map operand_entries ns ≡ flat_map operand_entries ms → ns ≡ ms
nodes_only ns ms e t o = ext_get_or False ns ms e (λ k l. sym (node_held ns k l) ∙ rw (t, o) (node_held ms k (omega (arith, e))))
