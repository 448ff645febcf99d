-- The phases of a fresh check as changes of an evaluation.
-- Assumes nothing.
use Rattle.std.specs.Prelude.{ℕ, suc, ◌+◌, ◌≡◌, Bool, false, cond, ◌&&◌, List, eqb, ltb, leb, get_or, set, replicate, Option, Some, None}
use Rattle.theory.specs.declared.Counts.{Counts}
use Rattle.kept.specs.Tabulate.{tabulate}
use Rattle.kept.specs.SetOf.{words32}
use Rattle.kept.specs.CountedSet.{and_then, counted_set}
use Rattle.kept.specs.Tables.{Tables, atom_count, node_count, root_count, root_at, head_at, body_at}
use Rattle.kept.specs.Evaluation.{Evaluation, truth_at, present, no_members, truth_word, truth, body_true, support, false_root}
use Rattle.kept.specs.Parts.{with_truths, with_support, with_candidate, with_false_roots}
use Rattle.kept.specs.Seen.{seen_by}
use Rattle.kept.specs.Step.{root_turned}
use Rattle.kept.specs.Layout.{of_words}
use Rattle.kept_laws.specs.Given.{sized, planned}
use Rattle.words.specs.Halves.{half}
use Rattle.kept_laws.specs.Wrote.{Changing, done, out_of_range}

-- ---- what a phase is lent

-- the counts, nodes and operands
abbrev pub viewed : Counts → List ℕ → List ℕ → Tables → Tables
viewed t nodes operands T = planned t T.made nodes operands T.roots T.producers T

-- the counts, roots and producers
abbrev pub summed : Counts → ℕ → List ℕ → List ℕ → Tables → Tables
summed t made roots producers T = planned t made T.nodes T.operands roots producers T

-- ---- reset

-- the header of a held check, with counts of 0, no first node of the worklist, and none remembered
unfoldable pub opened : Tables → Evaluation → Evaluation
opened T e =
    record {
      state = 1;
      stamp = T.counts.stamp;
      truths = e.truths;
      worklist = record { first = node_count T; far = 0; far_size = 0; others = record { members = e.worklist.others.members; size = 0 }; groups = e.worklist.groups };
      support = e.support;
      candidate = e.candidate;
      missing = record { members = e.missing.members; size = 0 };
      false_roots = record { members = e.false_roots.members; size = 0 };
    }

-- no member of a set, no support
unfoldable pub emptied : Tables → Evaluation → Evaluation
emptied T e =
    record {
      state = e.state;
      stamp = e.stamp;
      truths = e.truths;
      worklist =
          record {
            first = e.worklist.first;
            far = e.worklist.far;
            far_size = e.worklist.far_size;
            others = record { members = replicate (words32 (node_count T)) 0; size = e.worklist.others.size };
            groups = replicate (words32 (node_count T)) 0;
          };
      support = replicate (atom_count T) 0;
      candidate = e.candidate;
      missing = record { members = replicate (words32 (atom_count T)) 0; size = e.missing.size };
      false_roots = record { members = replicate (words32 (root_count T)) 0; size = e.false_roots.size };
    }

-- the candidate of these u64 words
unfoldable pub with_halves : Tables → List ℕ → Evaluation → Evaluation
with_halves T words e = with_candidate e (tabulate (words32 (atom_count T)) (half words)) e.missing

-- a check begun: nothing summarised yet
unfoldable pub begun : Tables → List ℕ → List ℕ → Evaluation
begun T truths candidate =
    record {
      state = 1;
      stamp = T.counts.stamp;
      truths = truths;
      worklist = record { first = node_count T; far = 0; far_size = 0; others = no_members (node_count T); groups = replicate (words32 (node_count T)) 0 };
      support = replicate (atom_count T) 0;
      candidate = candidate;
      missing = no_members (atom_count T);
      false_roots = no_members (root_count T);
    }

-- ---- truth

-- the word of node k gets a truth that was read; ok tells whether there is one
abbrev pub Stored : List ℕ → ℕ → Option Bool → Changing → List ℕ → Type 0
Stored ws k None ok after = (ok ≡ out_of_range) × (after ≡ ws)
Stored ws k (Some t) ok after = (ok ≡ done) × (after ≡ set ws (8 + k) (truth_word t))

-- node k by the lower ones
unfoldable pub truth_set : Tables → ℕ → Evaluation → Option Evaluation
truth_set T k e = and_then (seen_by T (present e) (truth_at e) k) (λ t. Some (with_truths e (set e.truths k (truth_word t))))

unfoldable pub truths_laid : Tables → Evaluation → Evaluation
truths_laid T e = with_truths e (tabulate (node_count T) (λ k. truth_word (truth T (present e) k)))

-- ---- support

-- producer p counted or not
unfoldable pub counted : Tables → ℕ → Evaluation → List ℕ
counted T p e = cond (body_true (truth_at e) (body_at T p)) (set e.support (head_at T p) (suc (get_or e.support (head_at T p) 0))) e.support

unfoldable pub producer_counted : Tables → ℕ → Evaluation → Option Evaluation
producer_counted T p e = cond (ltb (head_at T p) (atom_count T) && leb (body_at T p) (node_count T)) (Some (with_support e (counted T p e) e.missing)) None

unfoldable pub support_laid : Tables → Evaluation → Evaluation
support_laid T e = with_support e (tabulate (atom_count T) (support T (truth_at e))) e.missing

-- ---- missing atoms

-- atom a is in the candidate and has no support
abbrev pub lacks : Evaluation → ℕ → Bool
lacks e a = present e a && eqb (get_or e.support a 0) 0

unfoldable pub missing_laid : Tables → Evaluation → Evaluation
missing_laid T e = with_support e e.support (counted_set (lacks e) (atom_count T))

-- ---- false roots

-- root position p
unfoldable pub root_laid : Tables → ℕ → Evaluation → Option Evaluation
root_laid T p e = cond (ltb (root_at T p) (node_count T)) (cond (truth_at e (root_at T p)) (Some e) (root_turned T false p e)) None

unfoldable pub roots_laid : Tables → Evaluation → Evaluation
roots_laid T e = with_false_roots e (counted_set (false_root T (truth_at e)) (root_count T))

-- ---- all three

unfoldable pub summarised : Tables → Evaluation → Evaluation
summarised T e = roots_laid T (missing_laid T (support_laid T e))

-- where nothing is summarised
abbrev pub NoSupport : Counts → List ℕ → Type 0
NoSupport t ws = (T : Tables) → (of_words (sized t T) ws).support ≡ replicate t.atoms 0

abbrev pub NoMissing : Counts → List ℕ → Type 0
NoMissing t ws = (T : Tables) → (of_words (sized t T) ws).missing ≡ no_members t.atoms

abbrev pub NoFalseRoots : Counts → List ℕ → Type 0
NoFalseRoots t ws = (T : Tables) → (of_words (sized t T) ws).false_roots ≡ no_members t.roots
