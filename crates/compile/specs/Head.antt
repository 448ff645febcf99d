-- The head that a node makes: an Atom is normal; a choice is an Or of two operands in either order, an Atom node and an Implies from that same node to a False node.
-- Assumes nothing.
use Rattle.std.specs.Prelude.{ℕ, ◌+◌, Bool, false, cond, ◌&&◌, List, eqb, get_or, Option, Some, None}
use Rattle.formula.specs.Head.{Head, normal, choice, flipped, head_atom}
use Rattle.theory.specs.Node.{node_at}
use Rattle.theory.specs.NodeClass.{is_false}
use Rattle.theory.specs.declared.Node.{Node}
use Rattle.theory.specs.declared.Node.TheVariants.{Atom, False, Implies, And, Or, Unknown}
use Rattle.compile.specs.declared.Kind.{Kind}
use Rattle.compile.specs.declared.Kind.TheVariants.{Normal, Choice}
use Rattle.compile.specs.declared.Head as code

abbrev pub as_atom : Node → Option ℕ
as_atom (Atom a) = Some a
as_atom False = None
as_atom (Implies l r) = None
as_atom (And s c) = None
as_atom (Or s c) = None
as_atom Unknown = None

-- an Implies from node p to a False node
abbrev pub denies : List ℕ → ℕ → Node → Bool
denies nodes p (Atom a) = false
denies nodes p False = false
denies nodes p (Implies l r) = eqb l p && is_false (node_at nodes r)
denies nodes p (And s c) = false
denies nodes p (Or s c) = false
denies nodes p Unknown = false

-- the atom of node p, if node q denies p
unfoldable pub chosen : List ℕ → ℕ → ℕ → Option ℕ
chosen nodes p q = cond (denies nodes p (node_at nodes q)) (as_atom (node_at nodes p)) None

unfoldable pub either_order : Option ℕ → Option ℕ → Option Head
either_order (Some a) other = Some (choice a)
either_order None (Some a) = Some (flipped a)
either_order None None = None

unfoldable pub head_of : List ℕ → List ℕ → Node → Option Head
head_of nodes operands (Atom a) = Some (normal a)
head_of nodes operands False = None
head_of nodes operands (Implies l r) = None
head_of nodes operands (And s c) = None
head_of nodes operands (Or s c) =
    cond (eqb c 2) (either_order (chosen nodes (get_or operands s 0) (get_or operands (s + 1) 0)) (chosen nodes (get_or operands (s + 1) 0) (get_or operands s 0))) None
head_of nodes operands Unknown = None

-- ---- what the code answers

abbrev pub kind_of : Head → Kind
kind_of (normal a) = Normal
kind_of (choice a) = Choice
kind_of (flipped a) = Choice

-- a kind in the producer table
abbrev pub word_of : Kind → ℕ
word_of Normal = 0
word_of Choice = 1

unfoldable pub seen : Option Head → Option code.Head
seen None = None
seen (Some h) = Some (record { atom = head_atom h; kind = kind_of h })
