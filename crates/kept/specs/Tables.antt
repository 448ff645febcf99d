-- What a check is lent beside the candidate and the kept evaluation, and what it reads there.
-- Assumes nothing.
use Rattle.std.specs.Prelude.{ℕ, ◌+◌, ◌*◌, Bool, true, false, cond, ◌&&◌, List, ltb, leb, get_or, Option, Some, None}
use Rattle.theory.specs.Admission.{all_below}
use Rattle.theory.specs.Node.{node_at, span, operands_of}
use Rattle.theory.specs.declared.Counts.{Counts}
use Rattle.theory.specs.declared.Node.{Node}
use Rattle.theory.specs.declared.Node.TheVariants.{Atom, False, Implies, And, Or, Unknown}
use Rattle.readers.specs.Laid.{part}
use Rattle.readers.specs.ReaderTable.{reader_words}

-- the plan's stamp, the number of producers, and the lent words
pub record Tables : Type 0 where
  pub counts : Counts
  pub plan : ℕ
  pub made : ℕ
  pub nodes : List ℕ
  pub operands : List ℕ
  pub roots : List ℕ
  pub producers : List ℕ
  pub readers : List ℕ

abbrev pub atom_count : Tables → ℕ
atom_count T = T.counts.atoms

abbrev pub node_count : Tables → ℕ
node_count T = T.counts.nodes

abbrev pub root_count : Tables → ℕ
root_count T = T.counts.roots

abbrev pub root_at : Tables → ℕ → ℕ
root_at T r = get_or T.roots r 0

-- of producer p: the head's atom, and the body's node + 1 or 0 without body
abbrev pub head_at : Tables → ℕ → ℕ
head_at T p = get_or T.producers (4 * p) 0

abbrev pub body_at : Tables → ℕ → ℕ
body_at T p = get_or T.producers (4 * p + 1) 0

-- the operands of node k, one entry an occurrence
unfoldable pub operands_at : Tables → ℕ → List ℕ
operands_at T k = operands_of T.operands (node_at T.nodes k)

-- a known kind, an atom or a span within its table, operands below k
unfoldable pub sound_node : Counts → List ℕ → ℕ → Node → Bool
sound_node t operands k (Atom a) = ltb a t.atoms
sound_node t operands k False = true
sound_node t operands k (Implies l r) = ltb l k && ltb r k
sound_node t operands k (And s c) = leb (s + c) t.operands && all_below k (span operands s c)
sound_node t operands k (Or s c) = leb (s + c) t.operands && all_below k (span operands s c)
sound_node t operands k Unknown = false

unfoldable pub sound : Tables → ℕ → Bool
sound T k = sound_node T.counts T.operands k (node_at T.nodes k)

-- the part of the reader table between start s and the next; none: they are out of order or past the table
unfoldable pub between : ℕ → List ℕ → ℕ → ℕ → Option (List ℕ)
between most words a e = cond (leb a e && leb e most) (Some (part words a e)) None

unfoldable pub list_at : Tables → ℕ → Option (List ℕ)
list_at T s = between (reader_words T.counts) T.readers (get_or T.readers s 0) (get_or T.readers (s + 1) 0)

-- the readers of node k
abbrev pub readers_at : Tables → ℕ → Option (List ℕ)
readers_at T k = list_at T k

-- the atom nodes of atom a
abbrev pub atom_nodes_at : Tables → ℕ → Option (List ℕ)
atom_nodes_at T a = list_at T (node_count T + 1 + a)
