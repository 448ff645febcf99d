-- The nodes that wait to be gone over, as lent words may hold them, sound or not: the first apart, the others in words with their count,
-- and above these a set of the words that have members, so that the next one is found at once. A first that a lower node has put behind
-- itself is remembered with the number of the others right then, of which it is the lowest: once no more wait it is the next, and need not
-- be looked for.
-- Assumes nothing.
use Rattle.std.specs.Prelude.{ℕ, ◌<◌, ◌≤◌, ◌-◌, ◌*◌, ◌/◌, ◌≡◌, Bool, true, not, cond, ◌&&◌, List, eqb, ltb, get_or, Option, Some, None}
use Rattle.base.specs.Places.{count, lowest}
use Rattle.words.specs.Sets.{inserted, removed}
use Rattle.words.specs.Next.{next}
use Rattle.kept.specs.SetOf.{words32, set_of}
use Rattle.kept.specs.CountedSet.{CountedSet, and_then, counted_set, with_member}

-- first: the lowest node, or the number of nodes if none waits; far: a first that was put behind a lower one, far_size: how many others
-- there were then, both 0 if none is remembered; groups: which words of the others are not 0, in as many words
pub record Worklist : Type 0 where
  pub first : ℕ
  pub far : ℕ
  pub far_size : ℕ
  pub others : CountedSet
  pub groups : List ℕ

abbrev pub with_first : Worklist → ℕ → Worklist
with_first w k = record { first = k; far = w.far; far_size = w.far_size; others = w.others; groups = w.groups }

abbrev pub with_far : Worklist → ℕ → ℕ → Worklist
with_far w k s = record { first = w.first; far = k; far_size = s; others = w.others; groups = w.groups }

-- ---- a node enters

-- node m, below n, behind the first
unfoldable pub behind : ℕ → Worklist → ℕ → Option Worklist
behind n w m =
    and_then (with_member n w.others m true)
    (λ o. Some (record { first = w.first; far = w.far; far_size = w.far_size; others = o; groups = inserted 32 w.groups (m / 32) }))

-- node m, which was the first, is behind a lower one: it is remembered, unless one further on is
unfoldable pub remembering : ℕ → Worklist → Worklist
remembering m w = cond (ltb m w.far) w (with_far w m w.others.size)

-- node m where none waits; none: the first points past the number of nodes
unfoldable pub alone : ℕ → Worklist → ℕ → Option Worklist
alone n w m = cond (eqb w.first n) (Some (with_first w m)) None

-- node m, which is lower, comes before the first
unfoldable pub before : ℕ → Worklist → ℕ → Option Worklist
before n w m = and_then (behind n (with_first w m) w.first) (λ v. Some (remembering w.first v))

-- the lower of m and the first comes first
unfoldable pub with_node : ℕ → Worklist → ℕ → Option Worklist
with_node n w m =
    cond (ltb w.first m) (behind n w m)
    (cond (eqb m w.first) (Some w) (cond (ltb w.first n) (before n w m) (alone n w m)))

-- ---- the first leaves

-- word q is not 0
unfoldable pub filled : List ℕ → ℕ → Bool
filled ws q = not (eqb (get_or ws q 0) 0)

-- member m of word q comes first
unfoldable pub advanced : Worklist → ℕ → ℕ → Worklist
advanced w q m =
    record {
      first = m;
      far = w.far;
      far_size = w.far_size;
      others = record { members = removed 32 w.others.members m; size = w.others.size - 1 };
      groups = cond (filled (removed 32 w.others.members m) q) w.groups (removed 32 w.groups q);
    }

-- the lowest member of word q, m, does; none: it is not above the first, or the word has none
unfoldable pub advance : ℕ → Worklist → ℕ → ℕ → Option Worklist
advance n w q m = cond (ltb q (words32 n) && filled w.others.members q && ltb w.first m) (Some (advanced w q m)) None

-- the next word with members, looked for: the one that the first node would stand in, else by the groups
unfoldable pub sought_filled : Worklist → ℕ
sought_filled w = cond (filled w.others.members (w.first / 32)) (w.first / 32) (next 32 w.groups (w.first / 32))

-- no more wait than when the node that is remembered, and still ahead, was put behind
unfoldable pub far_next : Worklist → Bool
far_next w = eqb w.others.size w.far_size && ltb w.first w.far

-- the word of the node that is remembered if that is the next, else as it is looked for
unfoldable pub next_filled : Worklist → ℕ
next_filled w = cond (far_next w) (w.far / 32) (sought_filled w)

-- nothing is remembered
unfoldable pub forgotten : Worklist → Worklist
forgotten w = cond (eqb w.far_size 0) w (with_far w 0 0)

unfoldable pub without_first : ℕ → Worklist → Option Worklist
without_first n w =
    cond (eqb w.others.size 0) (Some (forgotten (with_first w n)))
    (advance n w (next_filled w) (next 32 w.others.members (32 * next_filled w)))

-- ---- a set of places below n

-- w without its lowest place
unfoldable pub but_lowest : (ℕ → Bool) → ℕ → ℕ → Bool
but_lowest w n j = w j && not (eqb j (lowest w 0 n))

-- the worklist of the places below n at which w holds, none remembered
unfoldable pub worklist_of : (ℕ → Bool) → ℕ → Worklist
worklist_of w n =
    record {
      first = lowest w 0 n;
      far = 0;
      far_size = 0;
      others = counted_set (but_lowest w n) n;
      groups = set_of (filled (set_of (but_lowest w n) n)) n;
    }

-- node a, if it is ahead of the first f, is one of the others r, of which at least s are not below it
abbrev pub Ahead : ℕ → ℕ → ℕ → ℕ → (ℕ → Bool) → Type 0
Ahead n f a s r = f < a → (a < n) × (r a ≡ true) × (s ≤ count r a (n - a))

-- what is remembered with the first f and the others r: nothing if none waits, and with no others no node
abbrev pub Remembers : ℕ → ℕ → ℕ → ℕ → (ℕ → Bool) → Type 0
Remembers n f a s r = Ahead n f a s r × (n ≤ f → s ≡ 0) × (s ≡ 0 → a ≡ 0)

-- a worklist of the places below n at which p holds, whatever it remembers
pub record Lists (n : ℕ) (p : ℕ → Bool) (w : Worklist) : Type 0 where
  pub listed : w ≡ with_far (worklist_of p n) w.far w.far_size
  pub remembers : Remembers n (lowest p 0 n) w.far w.far_size (but_lowest p n)
