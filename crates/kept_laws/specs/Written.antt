-- The lent words with an evaluation written into them: what a load gives, and what a store makes of it.
-- Assumes nothing.
use Rattle.std.specs.Prelude.{ℕ, ◌<◌, ◌≤◌, ◌+◌, ◌-◌, ◌≡◌, refl, List, get_or, set, take, drop}
use Rattle.std.proofs.Common.{arith, sym, ◌∙◌}
use Rattle.std.proofs.Math.Path.{ap}
use Rattle.std.proofs.Math.ListN.{length, length-drop}
use Rattle.kept.specs.SetOf.{words32}
use Rattle.kept.specs.Tables.{Tables, atom_count, node_count, root_count}
use Rattle.kept.specs.Evaluation.{Evaluation}
use Rattle.kept.specs.Parts.{with_truths, with_worklist, with_support, with_candidate, with_false_roots}
use Rattle.kept.specs.Layout.{image, section, of_words, written, truths_start, worklist_start, support_start, candidate_start, missing_start, false_roots_start, groups_start, used}
use Rattle.kept.specs.LayoutLaws.{Fits, section-rest, of_image, written-image, behind-image, length-image, image_of, fits_of}
use Rattle.kept_laws.specs.Stores as stores
use Rattle.kept.specs.Worklist.{with_first, with_far}
use Rattle.kept_laws.specs.Stores.{with_members, with_size, with_others, with_groups}

module _ (T : Tables) (ws : List ℕ) (long : used T ≤ length ws) where
  -- the words themselves
  pub written_same : written T ws (of_words T ws) ≡ ws
  unfolding written
  written_same = image_of T ws long

  module _ (e : Evaluation) (fits : Fits T e) where
    pub of_written : of_words T (written T ws e) ≡ e
    unfolding written
    of_written = of_image T e fits (section T ws 8)

    pub written_again : (d : Evaluation) → written T (written T ws e) d ≡ written T ws d
    unfolding written
    written_again d = written-image T e fits (section T ws 8) d

    pub written_behind : drop (used T) (written T ws e) ≡ drop (used T) ws
    unfolding written
    written_behind = behind-image T e fits (section T ws 8) ∙ section-rest T ws

    pub length-written : length (written T ws e) ≡ length ws
    unfolding written
    length-written =
        length-image T e fits (section T ws 8)
        ∙ ap (λ n. used T + n) (ap length (section-rest T ws) ∙ length-drop (used T) ws) ∙ (omega arith)

    -- ---- stores

    pub put_truth : (k v : ℕ) → k < node_count T → set (written T ws e) (truths_start + k) v ≡ written T ws (with_truths e (set e.truths k v))
    unfolding written
    put_truth = stores.store_truth T e fits (section T ws 8)

    pub put_worklist : (i v : ℕ) → i < words32 (node_count T)
        → set (written T ws e) (worklist_start T + i) v ≡ written T ws (with_worklist e (with_others e.worklist (with_members e.worklist.others (set e.worklist.others.members i v))))
    unfolding written
    put_worklist = stores.store_worklist T e fits (section T ws 8)

    pub put_support : (a v : ℕ) → a < atom_count T → set (written T ws e) (support_start T + a) v ≡ written T ws (with_support e (set e.support a v) e.missing)
    unfolding written
    put_support = stores.store_support T e fits (section T ws 8)

    pub put_candidate : (i v : ℕ) → i < words32 (atom_count T)
        → set (written T ws e) (candidate_start T + i) v ≡ written T ws (with_candidate e (set e.candidate i v) e.missing)
    unfolding written
    put_candidate = stores.store_candidate T e fits (section T ws 8)

    pub put_missing : (i v : ℕ) → i < words32 (atom_count T)
        → set (written T ws e) (missing_start T + i) v ≡ written T ws (with_support e e.support (with_members e.missing (set e.missing.members i v)))
    unfolding written
    put_missing = stores.store_missing T e fits (section T ws 8)

    pub put-false_roots : (i v : ℕ) → i < words32 (root_count T)
        → set (written T ws e) (false_roots_start T + i) v ≡ written T ws (with_false_roots e (with_members e.false_roots (set e.false_roots.members i v)))
    unfolding written
    put-false_roots = stores.store-false_roots T e fits (section T ws 8)

    pub put_groups : (i v : ℕ) → i < words32 (node_count T)
        → set (written T ws e) (groups_start T + i) v ≡ written T ws (with_worklist e (with_groups e.worklist (set e.worklist.groups i v)))
    unfolding written
    put_groups = stores.store_groups T e fits (section T ws 8)

    pub put_missing_size : (v : ℕ) → set (written T ws e) 2 v ≡ written T ws (with_support e e.support (with_size e.missing v))
    unfolding written
    put_missing_size = stores.store_missing_size T e fits (section T ws 8)

    pub put-false_roots-size : (v : ℕ) → set (written T ws e) 3 v ≡ written T ws (with_false_roots e (with_size e.false_roots v))
    unfolding written
    put-false_roots-size = stores.store-false_roots-size T e fits (section T ws 8)

    pub put_worklist_size : (v : ℕ) → set (written T ws e) 4 v ≡ written T ws (with_worklist e (with_others e.worklist (with_size e.worklist.others v)))
    unfolding written
    put_worklist_size = stores.store_worklist_size T e fits (section T ws 8)

    pub put_first : (v : ℕ) → set (written T ws e) 5 v ≡ written T ws (with_worklist e (with_first e.worklist v))
    unfolding written
    put_first = stores.store_first T e fits (section T ws 8)

    pub put_far : (a s : ℕ) → set (set (written T ws e) 6 a) 7 s ≡ written T ws (with_worklist e (with_far e.worklist a s))
    unfolding written
    put_far = stores.store_far T e fits (section T ws 8)

  -- ---- loads: what the words hold at a place is in the evaluation that they hold

  module _ where
    abbrev held : Evaluation
    held = of_words T ws

    here : (i : ℕ) → get_or ws i 0 ≡ get_or (image held (section T ws 8)) i 0
    here i = ap (λ l. get_or l i 0) (sym (image_of T ws long))

    pub get_truth : (k : ℕ) → k < node_count T → get_or ws (truths_start + k) 0 ≡ get_or held.truths k 0
    get_truth k l = here (truths_start + k) ∙ stores.load-truth T held (fits_of T ws long) (section T ws 8) k l

    pub get_worklist : (i : ℕ) → i < words32 (node_count T) → get_or ws (worklist_start T + i) 0 ≡ get_or held.worklist.others.members i 0
    get_worklist i l = here (worklist_start T + i) ∙ stores.load_worklist T held (fits_of T ws long) (section T ws 8) i l

    pub get_support : (a : ℕ) → a < atom_count T → get_or ws (support_start T + a) 0 ≡ get_or held.support a 0
    get_support a l = here (support_start T + a) ∙ stores.load-support T held (fits_of T ws long) (section T ws 8) a l

    pub get_candidate : (i : ℕ) → i < words32 (atom_count T) → get_or ws (candidate_start T + i) 0 ≡ get_or held.candidate i 0
    get_candidate i l = here (candidate_start T + i) ∙ stores.load-candidate T held (fits_of T ws long) (section T ws 8) i l

    pub get_missing : (i : ℕ) → i < words32 (atom_count T) → get_or ws (missing_start T + i) 0 ≡ get_or held.missing.members i 0
    get_missing i l = here (missing_start T + i) ∙ stores.load_missing T held (fits_of T ws long) (section T ws 8) i l

    pub get-false_roots : (i : ℕ) → i < words32 (root_count T) → get_or ws (false_roots_start T + i) 0 ≡ get_or held.false_roots.members i 0
    get-false_roots i l = here (false_roots_start T + i) ∙ stores.load-false_roots T held (fits_of T ws long) (section T ws 8) i l

    pub get_groups : (i : ℕ) → i < words32 (node_count T) → get_or ws (groups_start T + i) 0 ≡ get_or held.worklist.groups i 0
    get_groups i l = here (groups_start T + i) ∙ stores.load_groups T held (fits_of T ws long) (section T ws 8) i l

  -- ---- a set lent as a slice of its own

  lent-part : (a b : ℕ) → take (b - a) (drop a ws) ≡ take (b - a) (drop a (image (of_words T ws) (section T ws 8)))
  lent-part a b = ap (λ l. take (b - a) (drop a l)) (sym (image_of T ws long))

  pub part-candidate : take (missing_start T - candidate_start T) (drop (candidate_start T) ws) ≡ (of_words T ws).candidate
  part-candidate = lent-part (candidate_start T) (missing_start T) ∙ stores.read_candidate T (of_words T ws) (fits_of T ws long) (section T ws 8)

  pub part_missing : take (false_roots_start T - missing_start T) (drop (missing_start T) ws) ≡ (of_words T ws).missing.members
  part_missing = lent-part (missing_start T) (false_roots_start T) ∙ stores.read_missing T (of_words T ws) (fits_of T ws long) (section T ws 8)

  pub part-false_roots : take (groups_start T - false_roots_start T) (drop (false_roots_start T) ws) ≡ (of_words T ws).false_roots.members
  part-false_roots = lent-part (false_roots_start T) (groups_start T) ∙ stores.read-false_roots T (of_words T ws) (fits_of T ws long) (section T ws 8)

  pub part_groups : take (used T - groups_start T) (drop (groups_start T) ws) ≡ (of_words T ws).worklist.groups
  part_groups = lent-part (groups_start T) (used T) ∙ stores.read_groups T (of_words T ws) (fits_of T ws long) (section T ws 8)

-- the header's words
pub get_state : (T : Tables) (ws : List ℕ) → get_or ws 0 0 ≡ (of_words T ws).state
unfolding of_words
get_state T ws = refl

pub get_stamp : (T : Tables) (ws : List ℕ) → get_or ws 1 0 ≡ (of_words T ws).stamp
unfolding of_words
get_stamp T ws = refl

pub get_missing_size : (T : Tables) (ws : List ℕ) → get_or ws 2 0 ≡ (of_words T ws).missing.size
unfolding of_words
get_missing_size T ws = refl

pub get-false_roots-size : (T : Tables) (ws : List ℕ) → get_or ws 3 0 ≡ (of_words T ws).false_roots.size
unfolding of_words
get-false_roots-size T ws = refl

pub get_worklist_size : (T : Tables) (ws : List ℕ) → get_or ws 4 0 ≡ (of_words T ws).worklist.others.size
unfolding of_words
get_worklist_size T ws = refl

pub get_first : (T : Tables) (ws : List ℕ) → get_or ws 5 0 ≡ (of_words T ws).worklist.first
unfolding of_words
get_first T ws = refl

pub get_far : (T : Tables) (ws : List ℕ) → get_or ws 6 0 ≡ (of_words T ws).worklist.far
unfolding of_words
get_far T ws = refl

pub get_far_size : (T : Tables) (ws : List ℕ) → get_or ws 7 0 ≡ (of_words T ws).worklist.far_size
unfolding of_words
get_far_size T ws = refl
