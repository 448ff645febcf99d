-- The kept evaluation as a value (document 01's books), and the one that a fresh check leaves.
-- Assumes nothing.
use Rattle.std.specs.Prelude.{ℕ, zero, suc, Bool, true, false, not, ◌&&◌, List, eqb, get_or, replicate}
use Rattle.base.specs.Places.{count}
use Rattle.formula.specs.Satisfaction.{Interpretation}
use Rattle.theory.specs.NodeTruth.{node_truths}
use Rattle.words.specs.Sets.{member}
use Rattle.kept.specs.Tabulate.{tabulate}
use Rattle.kept.specs.SetOf.{words32, set_of}
use Rattle.kept.specs.CountedSet.{CountedSet, counted_set}
use Rattle.kept.specs.Worklist.{Worklist, worklist_of}
use Rattle.kept.specs.Tables.{Tables, atom_count, node_count, root_count, root_at, head_at, body_at}

-- all in words: state 1 if a check is held; truth a word for each node, 0 if false; support the number of producers with
-- true body for each atom; missing the candidate's atoms without such a producer
pub record Evaluation : Type 0 where
  pub state : ℕ
  pub stamp : ℕ
  pub truths : List ℕ
  pub worklist : Worklist
  pub support : List ℕ
  pub candidate : List ℕ
  pub missing : CountedSet
  pub false_roots : CountedSet

abbrev pub truth_at : Evaluation → ℕ → Bool
truth_at e k = not (eqb (get_or e.truths k 0) 0)

abbrev pub present : Evaluation → ℕ → Bool
present e a = member 32 e.candidate a

abbrev pub no_members : ℕ → CountedSet
no_members n = record { members = replicate (words32 n) 0; size = 0 }

-- all zero: no check is held
unfoldable pub zeroed : Tables → Evaluation
zeroed T =
    record {
      state = 0;
      stamp = 0;
      truths = replicate (node_count T) 0;
      worklist = record { first = 0; far = 0; far_size = 0; others = no_members (node_count T); groups = replicate (words32 (node_count T)) 0 };
      support = replicate (atom_count T) 0;
      candidate = replicate (words32 (atom_count T)) 0;
      missing = no_members (atom_count T);
      false_roots = no_members (root_count T);
    }

abbrev pub truth_word : Bool → ℕ
truth_word true = 1
truth_word false = 0

-- a held check: truth v, worklist w, support s, candidate c, false roots f
unfoldable pub held : Tables → (ℕ → Bool) → Worklist → (ℕ → ℕ) → (ℕ → Bool) → (ℕ → Bool) → Evaluation
held T v w s c f =
    record {
      state = 1;
      stamp = T.counts.stamp;
      truths = tabulate (node_count T) (λ k. truth_word (v k));
      worklist = w;
      support = tabulate (atom_count T) s;
      candidate = set_of c (atom_count T);
      missing = counted_set (λ a. c a && eqb (s a) 0) (atom_count T);
      false_roots = counted_set f (root_count T);
    }

-- the truth of each node under an interpretation
unfoldable pub truth : Tables → Interpretation → ℕ → Bool
truth T I k = get_or (node_truths I T.nodes T.operands (node_count T)) k false

-- by its second word: a producer has no body, or a true one
unfoldable pub body_true : (ℕ → Bool) → ℕ → Bool
body_true v zero = true
body_true v (suc b) = v b

-- producer p is one of a, and counts
unfoldable pub supports : Tables → (ℕ → Bool) → ℕ → ℕ → Bool
supports T v a p = eqb (head_at T p) a && body_true v (body_at T p)

-- how many producers of the atom do
unfoldable pub support : Tables → (ℕ → Bool) → ℕ → ℕ
support T v a = count (supports T v a) 0 T.made

unfoldable pub false_root : Tables → (ℕ → Bool) → ℕ → Bool
false_root T v r = not (v (root_at T r))

-- support, missing atoms and false roots summarised from truth v and candidate c
unfoldable pub summary : Tables → (ℕ → Bool) → Worklist → (ℕ → Bool) → Evaluation
summary T v w c = held T v w (support T v) c (false_root T v)

-- the candidate I, and nothing on the worklist
unfoldable pub fresh : Tables → Interpretation → Evaluation
fresh T I = summary T (truth T I) (worklist_of (λ k. false) (node_count T)) I
