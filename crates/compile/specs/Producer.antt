-- What a root produces: nothing, a producer, or a refusal (10, 11).
-- Assumes nothing.
use Rattle.std.specs.Prelude.{ℕ, ◌+◌, cond, List, eqb, get_or, Option, Some, None, Result, Ok, Err}
use Rattle.formula.specs.Head.{Head, head_atom}
use Rattle.theory.specs.Node.{node_at}
use Rattle.theory.specs.NodeClass.{is_false}
use Rattle.theory.specs.declared.Node.{Node}
use Rattle.theory.specs.declared.Node.TheVariants.{Atom, False, Implies, And, Or, Unknown}
use Rattle.theory.specs.declared.Refusal.TheVariants.{UnsupportedRoot, UnsupportedBody}
use Rattle.compile.specs.Head.{head_of, kind_of}
use Rattle.compile.specs.declared.Producer.{Producer}
use Rattle.theory.specs.declared.Refusal.{Refusal}

abbrev pub producer : ℕ → ℕ → Head → Producer
producer root body h = record { head = head_atom h; body = body; root = root; kind = kind_of h }

-- a head without body; the head is tested before the body
unfoldable pub fact : ℕ → Option Head → Result (Option Producer) Refusal
fact root None = Err (UnsupportedRoot root)
fact root (Some h) = Ok (Some (producer root 0 h))

-- a head with a body; classes are class words, 2 is Opaque
unfoldable pub rule : List ℕ → ℕ → ℕ → Option Head → Result (Option Producer) Refusal
rule classes root body None = Err (UnsupportedRoot root)
rule classes root body (Some h) = cond (eqb (get_or classes body 0) 2) (Err (UnsupportedBody root body)) (Ok (Some (producer root (body + 1) h)))

-- of a root whose node is at hand
unfoldable pub produced_by : List ℕ → List ℕ → List ℕ → ℕ → Node → Result (Option Producer) Refusal
produced_by nodes operands classes root (Atom a) = fact root (head_of nodes operands (Atom a))
produced_by nodes operands classes root False = Ok None
produced_by nodes operands classes root (Implies l r) = cond (is_false (node_at nodes r)) (Ok None) (rule classes root l (head_of nodes operands (node_at nodes r)))
produced_by nodes operands classes root (And s c) = fact root (head_of nodes operands (And s c))
produced_by nodes operands classes root (Or s c) = fact root (head_of nodes operands (Or s c))
produced_by nodes operands classes root Unknown = fact root (head_of nodes operands Unknown)

unfoldable pub produced : List ℕ → List ℕ → List ℕ → ℕ → Result (Option Producer) Refusal
produced nodes operands classes root = produced_by nodes operands classes root (node_at nodes root)
