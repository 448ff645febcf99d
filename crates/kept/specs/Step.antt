-- One step of a kept check: the lowest node on the worklist gets its truth, and if that changed its readers are told.
-- Assumes nothing.
use Rattle.std.specs.Prelude.{ℕ, Bool, not, cond, ◌&&◌, ◌||◌, List, [], ◌∷◌, eqb, ltb, get_or, set, Option, Some, None}
use Rattle.words.specs.Changed.{unlike}
use Rattle.readers.specs.declared.Reading.{Reading}
use Rattle.readers.specs.declared.Reading.TheVariants.{Node, Producer, Root, Unknown}
use Rattle.readers.specs.Reader.{reading_of}
use Rattle.kept.specs.CountedSet.{CountedSet, and_then, moved, with_member}
use Rattle.kept.specs.Worklist.{Worklist, with_node, without_first}
use Rattle.kept.specs.Tables.{Tables, atom_count, node_count, root_count, head_at, readers_at}
use Rattle.kept.specs.Seen.{seen_by}
use Rattle.kept.specs.Evaluation.{Evaluation, truth_at, present, truth_word}
use Rattle.kept.specs.Parts.{with_truths, with_worklist, with_support, with_false_roots}

-- ---- what a reader of node k does when k has become t; none: an index or a count would leave its range

-- node m onto the worklist
unfoldable pub entered : Tables → ℕ → Evaluation → Option Evaluation
entered T m e = and_then (with_node (node_count T) e.worklist m) (λ w. Some (with_worklist e w))

-- the missing atoms once the support of atom a has gone from s to n: looked at only where one of the two is 0
unfoldable pub missing_by : Tables → ℕ → ℕ → ℕ → Evaluation → Option CountedSet
missing_by T a s n e = cond (eqb s 0 || eqb n 0) (with_member (atom_count T) e.missing a (present e a && eqb n 0)) (Some e.missing)

-- a producer of atom a: one more or less with a true body
unfoldable pub support_moved : Tables → Bool → ℕ → Evaluation → Option Evaluation
support_moved T t a e =
    and_then (moved T.made t (get_or e.support a 0)) (λ n.
    and_then (missing_by T a (get_or e.support a 0) n e) (λ m. Some (with_support e (set e.support a n) m)))

-- root position r
unfoldable pub root_turned : Tables → Bool → ℕ → Evaluation → Option Evaluation
root_turned T t r e = and_then (with_member (root_count T) e.false_roots r (not t)) (λ f. Some (with_false_roots e f))

unfoldable pub reader_updated : Tables → ℕ → Bool → Evaluation → Reading → Option Evaluation
reader_updated T k t e (Node m) = cond (ltb k m && ltb m (node_count T)) (entered T m e) None
reader_updated T k t e (Producer p) = cond (ltb p T.made && ltb (head_at T p) (atom_count T)) (support_moved T t (head_at T p) e) None
reader_updated T k t e (Root r) = cond (ltb r (root_count T)) (root_turned T t r e) None
reader_updated T k t e Unknown = None

-- one after the other
unfoldable pub readers_updated : Tables → ℕ → Bool → Evaluation → List ℕ → Option Evaluation
readers_updated T k t e [] = Some e
readers_updated T k t e (x ∷ xs) = and_then (reader_updated T k t e (reading_of x)) (λ d. readers_updated T k t d xs)

-- ---- the step

-- nothing was on the worklist; node k was gone over; or 17, at a place
pub data Stepped : Type 0 where
  idle : Stepped
  took : ℕ → Evaluation → Stepped
  fault : ℕ → Stepped

abbrev pub took_at : ℕ → Option Evaluation → Stepped
took_at k None = fault k
took_at k (Some e) = took k e

-- node k, off the worklist, becomes t
unfoldable pub settled : Tables → ℕ → Bool → Evaluation → Stepped
settled T k t e =
    cond (unlike (truth_at e k) t)
    (took_at k (and_then (readers_at T k) (readers_updated T k t (with_truths e (set e.truths k (truth_word t))))))
    (took k e)

-- the truth of node k by the evaluation
unfoldable pub seen : Tables → Evaluation → ℕ → Option Bool
seen T e k = seen_by T (present e) (truth_at e) k

-- with its truth, and the worklist without it
abbrev pub settled_from : Tables → ℕ → Evaluation → Option Bool → Option Worklist → Stepped
settled_from T k e None w = fault k
settled_from T k e (Some t) None = fault 0
settled_from T k e (Some t) (Some w) = settled T k t (with_worklist e w)

-- node k is the first of the worklist; the number of nodes is none, and what is above it no node
unfoldable pub step_at : Tables → Evaluation → ℕ → Stepped
step_at T e k =
    cond (ltb k (node_count T)) (settled_from T k e (seen T e k) (without_first (node_count T) e.worklist))
    (cond (eqb k (node_count T)) idle (fault 0))

-- the lowest node of the worklist
unfoldable pub step : Tables → Evaluation → Stepped
step T e = step_at T e e.worklist.first
