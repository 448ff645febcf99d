-- Which lent tables are admitted: refusals 1, 6, 4, 5 node by node, then 7 root by root.
-- Assumes nothing.
use Rattle.std.specs.Prelude.{ℕ, zero, suc, ◌+◌, Bool, true, cond, ◌&&◌, List, [], ◌∷◌, eqb, ltb, leb, get_or, Result, Ok, Err}
use Rattle.theory.specs.Node.{node_at, span}
use Rattle.theory.specs.declared.Counts.{Counts}
use Rattle.theory.specs.declared.Node.{Node}
use Rattle.theory.specs.declared.Node.TheVariants.{Atom, False, Implies, And, Or, Unknown}
use Rattle.theory.specs.declared.Refusal.{Refusal}
use Rattle.theory.specs.declared.Refusal.TheVariants.{BadKind, BadAtom, BadOperand, NoOperands, BadRoot}

-- whether something is admitted, or why not
abbrev pub Admission : Type 0
Admission = Result (Unit {0}) Refusal

abbrev pub admitted : Admission
admitted = Ok tt

-- each of them is a node below k
unfoldable pub all_below : ℕ → List ℕ → Bool
all_below k [] = true
all_below k (o ∷ os) = ltb o k && all_below k os

-- where the span of node k has to begin: where the last one below it ended, the first at 0
abbrev pub span_end : Node → ℕ → ℕ
span_end (Atom a) at = at
span_end False at = at
span_end (Implies l r) at = at
span_end (And s c) at = at + c
span_end (Or s c) at = at + c
span_end Unknown at = at

unfoldable pub span_start : List ℕ → ℕ → ℕ
span_start nodes zero = 0
span_start nodes (suc k) = span_end (node_at nodes k) (span_start nodes k)

-- And or Or, its span to begin at start in a table of size entries
unfoldable pub group_admission : ℕ → List ℕ → ℕ → ℕ → ℕ → ℕ → Admission
group_admission size operands start k s c =
    cond (eqb c 0) (Err (NoOperands k))
    (cond (eqb s start && leb (s + c) size && all_below k (span operands s c)) admitted (Err (BadOperand k)))

unfoldable pub node_admission : Counts → List ℕ → ℕ → ℕ → Node → Admission
node_admission t operands start k (Atom a) = cond (ltb a t.atoms) admitted (Err (BadAtom k))
node_admission t operands start k False = admitted
node_admission t operands start k (Implies l r) = cond (ltb l k && ltb r k) admitted (Err (BadOperand k))
node_admission t operands start k (And s c) = group_admission t.operands operands start k s c
node_admission t operands start k (Or s c) = group_admission t.operands operands start k s c
node_admission t operands start k Unknown = Err (BadKind k)

-- root position i
unfoldable pub root_admission : Counts → List ℕ → ℕ → Admission
root_admission t roots i = cond (ltb (get_or roots i 0) t.nodes) admitted (Err (BadRoot i))

-- a refusal, or else what comes after it
abbrev pub or_else : Admission → Admission → Admission
or_else (Ok u) rest = rest
or_else (Err r) rest = Err r

-- the first refusal among the n from i on
unfoldable pub first_refusal : (ℕ → Admission) → ℕ → ℕ → Admission
first_refusal f i zero = admitted
first_refusal f i (suc n) = or_else (f i) (first_refusal f (i + 1) n)

unfoldable pub nodes_admission : Counts → List ℕ → List ℕ → Admission
nodes_admission t nodes operands = first_refusal (λ k. node_admission t operands (span_start nodes k) k (node_at nodes k)) 0 t.nodes

unfoldable pub roots_admission : Counts → List ℕ → Admission
roots_admission t roots = first_refusal (root_admission t roots) 0 t.roots

unfoldable pub admission : Counts → List ℕ → List ℕ → List ℕ → Admission
admission t nodes operands roots = or_else (nodes_admission t nodes operands) (roots_admission t roots)
