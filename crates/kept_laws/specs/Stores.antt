-- What a load or a store at a place of the lent words, or a section lent as a slice, is to the evaluation that they hold.
-- Assumes nothing.
use Rattle.std.specs.Prelude.{ℕ, zero, suc, Bool, true, false, ◌<◌, ◌+◌, ◌-◌, ◌≡◌, List, [], ◌∷◌, ◌++◌, length, take, drop}
use native.Mathlib.Omega.{arith}
use Rattle.std.proofs.Common.{suc-add, zero-add, add_assoc, ◌∙◌, append_assoc, get_or-append-add}
use Rattle.std.proofs.Math.Path.{refl, ap}
use Rattle.std.proofs.Math.ListN.{get_or, set, get_or-append}
use Rattle.std.proofs.lemmas.List.{set-append_left}
use Rattle.std.proofs.Math.Seq.{drop-append_seam, take-append_seam, take-append-add, drop-append-add}
use Rattle.kept.specs.SetOf.{words32}
use Rattle.kept.specs.CountedSet.{CountedSet}
use Rattle.kept.specs.Worklist.{Worklist, with_first, with_far}
use Rattle.kept.specs.Tables.{Tables, atom_count, node_count, root_count}
use Rattle.kept.specs.Evaluation.{Evaluation, truth_word}
use Rattle.kept.specs.Parts.{with_truths, with_worklist, with_support, with_candidate, with_false_roots}
use Rattle.kept.specs.Layout.{flat, parts, image, truths_start, worklist_start, support_start, candidate_start, missing_start, false_roots_start, groups_start, used}
use Rattle.kept.specs.LayoutLaws.{Fits}
use Rattle.std.specs.Int.{from_bool}

-- a truth as a word
pub from_truth : (t : Bool) → from_bool t ≡ truth_word t
from_truth true = refl
from_truth false = refl

-- ---- parts laid end to end

-- where part k starts
unfoldable pub start : List (List ℕ) → ℕ → ℕ
start xs zero = 0
start [] (suc k) = 0
start (x ∷ xs) (suc k) = length x + start xs k

set_right : (xs ys : List ℕ) (i v : ℕ) → set (xs ++ ys) (length xs + i) v ≡ xs ++ set ys i v
set_right [] ys i v = rw (zero-add i)
set_right (x ∷ xs) ys i v = rw (suc-add (length xs) i) (ap (λ l. x ∷ l) (set_right xs ys i v))

pub flat-set : (xs : List (List ℕ)) (k i v : ℕ) → i < length (get_or xs k []) → set (flat xs) (start xs k + i) v ≡ flat (set xs k (set (get_or xs k []) i v))
unfolding flat start
flat-set [] k i v l = absurd (omega arith)
flat-set (x ∷ xs) zero i v l = rw (zero-add i) (set-append_left x (flat xs) i v l)
flat-set (x ∷ xs) (suc k) i v l =
    ap (λ m. set (x ++ flat xs) m v) (add_assoc (length x) (start xs k) i)
    ∙ set_right x (flat xs) (start xs k + i) v ∙ ap (λ l. x ++ l) (flat-set xs k i v l)

pub flat_get : (xs : List (List ℕ)) (k i : ℕ) → i < length (get_or xs k []) → get_or (flat xs) (start xs k + i) 0 ≡ get_or (get_or xs k []) i 0
unfolding flat start
flat_get [] k i l = absurd (omega arith)
flat_get (x ∷ xs) zero i l = rw (zero-add i) (get_or-append x (flat xs) 0 i l)
flat_get (x ∷ xs) (suc k) i l =
    ap (λ m. get_or (x ++ flat xs) m 0) (add_assoc (length x) (start xs k) i)
    ∙ get_or-append-add x (flat xs) (start xs k + i) 0 ∙ flat_get xs k i l

-- a part lent as a slice of its own, and given back as y
pub flat-part : (xs : List (List ℕ)) (k : ℕ) (y : List ℕ) → k < length xs
    → take (start xs k) (flat xs) ++ (y ++ drop (start xs k + length (get_or xs k [])) (flat xs)) ≡ flat (set xs k y)
unfolding flat start
flat-part [] k y l = absurd (omega arith)
flat-part (x ∷ xs) zero y l = rw (zero-add (length x), drop-append_seam x (flat xs))
flat-part (x ∷ xs) (suc k) y l =
    rw (take-append-add x (flat xs) (start xs k), add_assoc (length x) (start xs k) (length (get_or xs k [])), drop-append-add x (flat xs) (start xs k + length (get_or xs k [])))
    (append_assoc x (take (start xs k) (flat xs)) (y ++ drop (start xs k + length (get_or xs k [])) (flat xs)) ∙ ap (λ l. x ++ l) (flat-part xs k y (omega arith)))

-- a part as it stands there
pub flat-read : (xs : List (List ℕ)) (k : ℕ) → take (length (get_or xs k [])) (drop (start xs k) (flat xs)) ≡ get_or xs k []
unfolding flat start
flat-read [] k = refl
flat-read (x ∷ xs) zero = take-append_seam x (flat xs)
flat-read (x ∷ xs) (suc k) = rw (drop-append-add x (flat xs) (start xs k)) (flat-read xs k)

-- ---- the parts of an evaluation

abbrev pub with_members : CountedSet → List ℕ → CountedSet
with_members s ws = record { members = ws; size = s.size }

abbrev pub with_size : CountedSet → ℕ → CountedSet
with_size s n = record { members = s.members; size = n }

abbrev pub with_others : Worklist → CountedSet → Worklist
with_others w o = record { first = w.first; far = w.far; far_size = w.far_size; others = o; groups = w.groups }

abbrev pub with_groups : Worklist → List ℕ → Worklist
with_groups w ws = record { first = w.first; far = w.far; far_size = w.far_size; others = w.others; groups = ws }

module _ (T : Tables) (e : Evaluation) (fits : Fits T e) (rest : List ℕ) where
  abbrev ps : List (List ℕ)
  ps = parts e rest

  at_truths : (i : ℕ) → truths_start + i ≡ start ps 1 + i
  unfolding start
  at_truths i = omega arith

  at_worklist : (i : ℕ) → worklist_start T + i ≡ start ps 2 + i
  unfolding start
  at_worklist i = omega (arith, fits.truths)

  at_support : (i : ℕ) → support_start T + i ≡ start ps 3 + i
  unfolding start
  at_support i = omega (arith, fits.truths, fits.worklist)

  at_candidate : (i : ℕ) → candidate_start T + i ≡ start ps 4 + i
  unfolding start
  at_candidate i = omega (arith, fits.truths, fits.worklist, fits.support)

  at_missing : (i : ℕ) → missing_start T + i ≡ start ps 5 + i
  unfolding start
  at_missing i = omega (arith, fits.truths, fits.worklist, fits.support, fits.candidate)

  at-false_roots : (i : ℕ) → false_roots_start T + i ≡ start ps 6 + i
  unfolding start
  at-false_roots i = omega (arith, fits.truths, fits.worklist, fits.support, fits.candidate, fits.missing)

  at_groups : (i : ℕ) → groups_start T + i ≡ start ps 7 + i
  unfolding start
  at_groups i = omega (arith, fits.truths, fits.worklist, fits.support, fits.candidate, fits.missing, fits.false_roots)

  -- ---- stores

  pub store_truth : (k v : ℕ) → k < node_count T → set (image e rest) (truths_start + k) v ≡ image (with_truths e (set e.truths k v)) rest
  unfolding image
  store_truth k v l = ap (λ m. set (flat ps) m v) (at_truths k) ∙ flat-set ps 1 k v (omega (arith, fits.truths))

  pub store_worklist : (i v : ℕ) → i < words32 (node_count T)
      → set (image e rest) (worklist_start T + i) v ≡ image (with_worklist e (with_others e.worklist (with_members e.worklist.others (set e.worklist.others.members i v)))) rest
  unfolding image
  store_worklist i v l = ap (λ m. set (flat ps) m v) (at_worklist i) ∙ flat-set ps 2 i v (omega (arith, fits.worklist))

  pub store_support : (a v : ℕ) → a < atom_count T → set (image e rest) (support_start T + a) v ≡ image (with_support e (set e.support a v) e.missing) rest
  unfolding image
  store_support a v l = ap (λ m. set (flat ps) m v) (at_support a) ∙ flat-set ps 3 a v (omega (arith, fits.support))

  pub store_candidate : (i v : ℕ) → i < words32 (atom_count T)
      → set (image e rest) (candidate_start T + i) v ≡ image (with_candidate e (set e.candidate i v) e.missing) rest
  unfolding image
  store_candidate i v l = ap (λ m. set (flat ps) m v) (at_candidate i) ∙ flat-set ps 4 i v (omega (arith, fits.candidate))

  pub store_missing : (i v : ℕ) → i < words32 (atom_count T)
      → set (image e rest) (missing_start T + i) v ≡ image (with_support e e.support (with_members e.missing (set e.missing.members i v))) rest
  unfolding image
  store_missing i v l = ap (λ m. set (flat ps) m v) (at_missing i) ∙ flat-set ps 5 i v (omega (arith, fits.missing))

  pub store-false_roots : (i v : ℕ) → i < words32 (root_count T)
      → set (image e rest) (false_roots_start T + i) v ≡ image (with_false_roots e (with_members e.false_roots (set e.false_roots.members i v))) rest
  unfolding image
  store-false_roots i v l = ap (λ m. set (flat ps) m v) (at-false_roots i) ∙ flat-set ps 6 i v (omega (arith, fits.false_roots))

  pub store_groups : (i v : ℕ) → i < words32 (node_count T)
      → set (image e rest) (groups_start T + i) v ≡ image (with_worklist e (with_groups e.worklist (set e.worklist.groups i v))) rest
  unfolding image
  store_groups i v l = ap (λ m. set (flat ps) m v) (at_groups i) ∙ flat-set ps 7 i v (omega (arith, fits.groups))

  -- the numbers in the header
  pub store_missing_size : (v : ℕ) → set (image e rest) 2 v ≡ image (with_support e e.support (with_size e.missing v)) rest
  unfolding image flat
  store_missing_size v = refl

  pub store-false_roots-size : (v : ℕ) → set (image e rest) 3 v ≡ image (with_false_roots e (with_size e.false_roots v)) rest
  unfolding image flat
  store-false_roots-size v = refl

  pub store_worklist_size : (v : ℕ) → set (image e rest) 4 v ≡ image (with_worklist e (with_others e.worklist (with_size e.worklist.others v))) rest
  unfolding image flat
  store_worklist_size v = refl

  pub store_first : (v : ℕ) → set (image e rest) 5 v ≡ image (with_worklist e (with_first e.worklist v)) rest
  unfolding image flat
  store_first v = refl

  pub store_far : (a s : ℕ) → set (set (image e rest) 6 a) 7 s ≡ image (with_worklist e (with_far e.worklist a s)) rest
  unfolding image flat
  store_far a s = refl

  -- ---- loads

  pub load-truth : (k : ℕ) → k < node_count T → get_or (image e rest) (truths_start + k) 0 ≡ get_or e.truths k 0
  unfolding image
  load-truth k l = ap (λ m. get_or (flat ps) m 0) (at_truths k) ∙ flat_get ps 1 k (omega (arith, fits.truths))

  pub load_worklist : (i : ℕ) → i < words32 (node_count T) → get_or (image e rest) (worklist_start T + i) 0 ≡ get_or e.worklist.others.members i 0
  unfolding image
  load_worklist i l = ap (λ m. get_or (flat ps) m 0) (at_worklist i) ∙ flat_get ps 2 i (omega (arith, fits.worklist))

  pub load-support : (a : ℕ) → a < atom_count T → get_or (image e rest) (support_start T + a) 0 ≡ get_or e.support a 0
  unfolding image
  load-support a l = ap (λ m. get_or (flat ps) m 0) (at_support a) ∙ flat_get ps 3 a (omega (arith, fits.support))

  pub load-candidate : (i : ℕ) → i < words32 (atom_count T) → get_or (image e rest) (candidate_start T + i) 0 ≡ get_or e.candidate i 0
  unfolding image
  load-candidate i l = ap (λ m. get_or (flat ps) m 0) (at_candidate i) ∙ flat_get ps 4 i (omega (arith, fits.candidate))

  pub load_missing : (i : ℕ) → i < words32 (atom_count T) → get_or (image e rest) (missing_start T + i) 0 ≡ get_or e.missing.members i 0
  unfolding image
  load_missing i l = ap (λ m. get_or (flat ps) m 0) (at_missing i) ∙ flat_get ps 5 i (omega (arith, fits.missing))

  pub load-false_roots : (i : ℕ) → i < words32 (root_count T) → get_or (image e rest) (false_roots_start T + i) 0 ≡ get_or e.false_roots.members i 0
  unfolding image
  load-false_roots i l = ap (λ m. get_or (flat ps) m 0) (at-false_roots i) ∙ flat_get ps 6 i (omega (arith, fits.false_roots))

  pub load_groups : (i : ℕ) → i < words32 (node_count T) → get_or (image e rest) (groups_start T + i) 0 ≡ get_or e.worklist.groups i 0
  unfolding image
  load_groups i l = ap (λ m. get_or (flat ps) m 0) (at_groups i) ∙ flat_get ps 7 i (omega (arith, fits.groups))

  -- ---- a set lent as a slice of its own, from a up to b, and given back as y

  read_part : (k a b : ℕ) → a + 0 ≡ start ps k + 0 → b - a ≡ length (get_or ps k []) → take (b - a) (drop a (image e rest)) ≡ get_or ps k []
  unfolding image
  read_part k a b p q = let i : a ≡ start ps k = omega arith in rw (q, i) (flat-read ps k)

  lend_part : (k a b : ℕ) (y : List ℕ) → k < 9 → a + 0 ≡ start ps k + 0 → b ≡ a + length (get_or ps k []) → take a (image e rest) ++ (y ++ drop b (image e rest)) ≡ flat (set ps k y)
  unfolding image
  lend_part k a b y l p q = let i : a ≡ start ps k = omega arith in rw (q, i) (flat-part ps k y l)

  pub read_candidate : take (missing_start T - candidate_start T) (drop (candidate_start T) (image e rest)) ≡ e.candidate
  read_candidate = read_part 4 (candidate_start T) (missing_start T) (at_candidate 0) (omega (arith, fits.candidate))

  pub read_missing : take (false_roots_start T - missing_start T) (drop (missing_start T) (image e rest)) ≡ e.missing.members
  read_missing = read_part 5 (missing_start T) (false_roots_start T) (at_missing 0) (omega (arith, fits.missing))

  pub read-false_roots : take (groups_start T - false_roots_start T) (drop (false_roots_start T) (image e rest)) ≡ e.false_roots.members
  read-false_roots = read_part 6 (false_roots_start T) (groups_start T) (at-false_roots 0) (omega (arith, fits.false_roots))

  pub read_groups : take (used T - groups_start T) (drop (groups_start T) (image e rest)) ≡ e.worklist.groups
  read_groups = read_part 7 (groups_start T) (used T) (at_groups 0) (omega (arith, fits.groups))

  pub lend_candidate : (y : List ℕ)
      → take (candidate_start T) (image e rest) ++ (y ++ drop (missing_start T) (image e rest)) ≡ image (with_candidate e y e.missing) rest
  unfolding image
  lend_candidate y = lend_part 4 (candidate_start T) (missing_start T) y (omega arith) (at_candidate 0) (omega (arith, fits.candidate))
