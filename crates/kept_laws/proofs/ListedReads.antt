-- What a check reads in the tables is the same in their listed words.
-- Assumes nothing.
use Rattle.std.specs.Prelude.{Some, None}
use Prim.Native.Nat.{ℕ, zero, suc, ◌<◌, ◌≤◌, ◌+◌, ◌-◌, ◌*◌}
use native.Mathlib.Omega.{arith}
use mathlib.Core.Path.{◌≡◌, refl, ap}
use mathlib.Core.Bool.{Bool, true, false, cond, ◌&&◌}
use mathlib.Core.List.{List, [], ◌∷◌}
use lib.Dec.{leb}
use lib.ListN.{get_or, take, drop}
use lib.Seq.{get_or-take, take-take}
use borrow.Author.Tests.{leb-true}
use Rattle.formula.specs.Satisfaction.{Interpretation}
use Rattle.theory.specs.Node.{node_at, span}
use Rattle.theory.specs.declared.Node.{Node}
use Rattle.theory.specs.declared.Node.TheVariants.{Atom, False, Implies, And, Or, Unknown}
use Rattle.readers.specs.Laid.{part}
use Rattle.readers.specs.ReaderTable.{reader_words}
use Rattle.kept.specs.Tables.{Tables, atom_count, node_count, root_count, root_at, head_at, body_at, between, list_at, readers_at, atom_nodes_at}
use Rattle.kept.specs.Seen.{group_seen, node_seen, seen_by}
use Rattle.kept_laws.specs.Listed.{listed_tables}

-- words within the first n
take_within : (s m n : ℕ) (xs : List ℕ) → s + m ≤ n → take m (drop s (take n xs)) ≡ take m (drop s xs)
take_within zero m n xs l = take-take m n xs (omega arith)
take_within (suc s) m zero xs l = absurd (omega arith)
take_within (suc s) m (suc n) [] l = refl
take_within (suc s) m (suc n) (x ∷ xs) l = take_within s m n xs (omega arith)

module _ (T : Tables) where
  node_listed : (k : ℕ) → k < node_count T → node_at (listed_tables T).nodes k ≡ node_at T.nodes k
  unfolding node_at
  node_listed k l =
      rw (
        get_or-take (3 * node_count T) T.nodes (3 * k) 0 (omega arith),
        get_or-take (3 * node_count T) T.nodes (3 * k + 1) 0 (omega arith),
        get_or-take (3 * node_count T) T.nodes (3 * k + 2) 0 (omega arith),
      )

  group_listed : (v : ℕ → Bool) (k : ℕ) (d : Bool) (s c : ℕ) (b : Bool) → leb (s + c) T.counts.operands ≡ b
      → cond b (group_seen k v d (span (listed_tables T).operands s c)) None ≡ cond b (group_seen k v d (span T.operands s c)) None
  unfolding span
  group_listed v k d s c true e = ap (group_seen k v d) (take_within s c T.counts.operands T.operands (leb-true (s + c) T.counts.operands e))
  group_listed v k d s c false e = refl

  node_seen-listed : (I : Interpretation) (v : ℕ → Bool) (k : ℕ) (n : Node)
      → node_seen T.counts (listed_tables T).operands I v k n ≡ node_seen T.counts T.operands I v k n
  unfolding node_seen
  node_seen-listed I v k (Atom a) = refl
  node_seen-listed I v k False = refl
  node_seen-listed I v k (Implies l r) = refl
  node_seen-listed I v k (And s c) = group_listed v k false s c (leb (s + c) T.counts.operands) refl
  node_seen-listed I v k (Or s c) = group_listed v k true s c (leb (s + c) T.counts.operands) refl
  node_seen-listed I v k Unknown = refl

  pub seen-listed : (I : Interpretation) (v : ℕ → Bool) (k : ℕ) → k < node_count T → seen_by (listed_tables T) I v k ≡ seen_by T I v k
  unfolding seen_by
  seen-listed I v k l = rw (node_listed k l) (node_seen-listed I v k (node_at T.nodes k))

  between-listed : (a e : ℕ) → between (reader_words T.counts) (listed_tables T).readers a e ≡ between (reader_words T.counts) T.readers a e
  unfolding between
  between-listed a e = go (leb a e) refl (leb e (reader_words T.counts)) refl
    where
      go : (x : Bool) → leb a e ≡ x → (y : Bool) → leb e (reader_words T.counts) ≡ y
          → cond (x && y) (Some (part (listed_tables T).readers a e)) None ≡ cond (x && y) (Some (part T.readers a e)) None
      go true p true q =
          ap Some (take_within a (e - a) (reader_words T.counts) T.readers (omega (arith, leb-true a e p, leb-true e (reader_words T.counts) q)))
      go true p false q = refl
      go false p y q = refl

  list-listed : (s : ℕ) → s + 1 < reader_words T.counts → list_at (listed_tables T) s ≡ list_at T s
  unfolding list_at
  list-listed s l =
      rw (
        get_or-take (reader_words T.counts) T.readers s 0 (omega arith),
        get_or-take (reader_words T.counts) T.readers (s + 1) 0 (omega arith),
      )
      (between-listed (get_or T.readers s 0) (get_or T.readers (s + 1) 0))

  pub readers-listed : (k : ℕ) → k < node_count T → readers_at (listed_tables T) k ≡ readers_at T k
  readers-listed k l = list-listed k (omega arith)

  pub atom_nodes_listed : (a : ℕ) → a < atom_count T → atom_nodes_at (listed_tables T) a ≡ atom_nodes_at T a
  atom_nodes_listed a l = list-listed (node_count T + 1 + a) (omega arith)

  pub head_listed : (p : ℕ) → p < root_count T → head_at (listed_tables T) p ≡ head_at T p
  head_listed p l = get_or-take (4 * root_count T) T.producers (4 * p) 0 (omega arith)

  pub body_listed : (p : ℕ) → p < root_count T → body_at (listed_tables T) p ≡ body_at T p
  body_listed p l = get_or-take (4 * root_count T) T.producers (4 * p + 1) 0 (omega arith)

  pub root_listed : (r : ℕ) → r < root_count T → root_at (listed_tables T) r ≡ root_at T r
  root_listed r l = get_or-take (root_count T) T.roots r 0 l
