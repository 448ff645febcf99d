-- Where each part of a kept evaluation stands in the lent words.
-- Assumes nothing.
use Rattle.std.specs.Prelude.{ℕ, ◌+◌, ◌*◌, List, [], ◌∷◌, ◌++◌, get_or, take, drop}
use Rattle.kept.specs.SetOf.{words32}
use Rattle.kept.specs.Tables.{Tables, atom_count, node_count, root_count}
use Rattle.kept.specs.Evaluation.{Evaluation}

-- parts laid end to end, and cut again at the given lengths, the rest last
unfoldable pub flat : List (List ℕ) → List ℕ
flat [] = []
flat (x ∷ xs) = x ++ flat xs

unfoldable pub cut : List ℕ → List ℕ → List (List ℕ)
cut [] ws = ws ∷ []
cut (n ∷ ns) ws = take n ws ∷ cut ns (drop n ws)

-- a header of 8 words; then truth, worklist, support, candidate, missing atoms, false roots, groups of the worklist; the rest is unused
abbrev pub lengths : Tables → List ℕ
lengths T =
    8 ∷ node_count T ∷ words32 (node_count T) ∷ atom_count T ∷ words32 (atom_count T) ∷ words32 (atom_count T) ∷ words32 (root_count T) ∷ words32 (node_count T) ∷ []

abbrev pub header : Evaluation → List ℕ
header e =
    e.state ∷ e.stamp ∷ e.missing.size ∷ e.false_roots.size ∷ e.worklist.others.size ∷ e.worklist.first ∷ e.worklist.far ∷ e.worklist.far_size ∷ []

abbrev pub parts : Evaluation → List ℕ → List (List ℕ)
parts e rest =
    header e ∷ e.truths ∷ e.worklist.others.members ∷ e.support ∷ e.candidate ∷ e.missing.members ∷ e.false_roots.members ∷ e.worklist.groups ∷ rest ∷ []

-- the words of an evaluation
unfoldable pub image : Evaluation → List ℕ → List ℕ
image e rest = flat (parts e rest)

-- the evaluation that lent words hold
abbrev pub section : Tables → List ℕ → ℕ → List ℕ
section T ws k = get_or (cut (lengths T) ws) k []

unfoldable pub of_words : Tables → List ℕ → Evaluation
of_words T ws =
    record {
      state = get_or ws 0 0;
      stamp = get_or ws 1 0;
      truths = section T ws 1;
      worklist =
          record {
            first = get_or ws 5 0;
            far = get_or ws 6 0;
            far_size = get_or ws 7 0;
            others = record { members = section T ws 2; size = get_or ws 4 0 };
            groups = section T ws 7;
          };
      support = section T ws 3;
      candidate = section T ws 4;
      missing = record { members = section T ws 5; size = get_or ws 2 0 };
      false_roots = record { members = section T ws 6; size = get_or ws 3 0 };
    }

-- the words with another evaluation in the place of theirs
unfoldable pub written : Tables → List ℕ → Evaluation → List ℕ
written T ws e = image e (section T ws 8)

-- where each section starts
abbrev pub truths_start : ℕ
truths_start = 8

abbrev pub worklist_start : Tables → ℕ
worklist_start T = 8 + node_count T

abbrev pub support_start : Tables → ℕ
support_start T = worklist_start T + words32 (node_count T)

abbrev pub candidate_start : Tables → ℕ
candidate_start T = support_start T + atom_count T

abbrev pub missing_start : Tables → ℕ
missing_start T = candidate_start T + words32 (atom_count T)

abbrev pub false_roots_start : Tables → ℕ
false_roots_start T = missing_start T + words32 (atom_count T)

abbrev pub groups_start : Tables → ℕ
groups_start T = false_roots_start T + words32 (root_count T)

abbrev pub used : Tables → ℕ
used T = groups_start T + words32 (node_count T)

-- the listed length of lent buffer 7
abbrev pub listed : Tables → ℕ
listed T = 16 + 2 * node_count T + 3 * atom_count T + root_count T
