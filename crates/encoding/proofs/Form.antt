-- A record by its mark and its values: its bytes, read and written.
-- Assumes nothing.
use Prim.Native.Nat.{ℕ, suc, ◌+◌, ◌*◌, ◌≤◌}
use native.Mathlib.Nat.{add-zero}
use native.Mathlib.Omega.{arith}
use mathlib.Core.Path.{◌≡◌, refl, ◌∙◌}
use mathlib.Core.Bool.{Bool, true, false, ◌&&◌, cond, false≢true}
use mathlib.Core.List.{List, [], ◌∷◌, ◌++◌, flat_map, append_assoc}
use lib.ListN.{length, get_or, drop}
use lib.Seq.{drop-cons}
use lib.Dec.{eqb}
use borrow.Author.Tests.{eqb-true}
use Rattle.record.specs.Mark.{is_mark, node_mark_at, mark_at, in_order}
use Rattle.record.specs.Number.{number, numbers}
use Rattle.record.specs.Layout.{counted, arity, value_count, values_start, record_end, values_of}
use Rattle.record.specs.declared.Stage.{Stage}
use Rattle.record.specs.declared.Mark.{Mark}
use Rattle.record.specs.declared.Mark.TheVariants.{Theory, Atom, False, Implies, And, Or, Root, Candidate, Unknown}
use Rattle.record.proofs.Laws.{length_numbers}
use Rattle.record.proofs.Steps.{end_past}
use Rattle.encoding.specs.Encoding.{number_bytes, record_bytes}
use Rattle.encoding.specs.Sound.{Below}
use Rattle.encoding.proofs.Numbers.{byte_at, drop_past, number_read, numbers-read, past_number, length-bytes, number-written, numbers-written}

-- the first letter of a mark
abbrev pub first_letter : Mark → ℕ
first_letter Theory = 84
first_letter Atom = 78
first_letter False = 78
first_letter Implies = 78
first_letter And = 78
first_letter Or = 78
first_letter Root = 82
first_letter Candidate = 67
first_letter Unknown = 0

-- its second letter
abbrev pub second_letter : Mark → ℕ
second_letter Theory = 72
second_letter Atom = 65
second_letter False = 70
second_letter Implies = 73
second_letter And = 67
second_letter Or = 68
second_letter Root = 84
second_letter Candidate = 65
second_letter Unknown = 0

-- the numbers of a record: its values, after their count where it has one
abbrev pub numbers_in : Bool → List ℕ → List ℕ
numbers_in true vs = length vs ∷ vs
numbers_in false vs = vs

-- the bytes of a record
unfoldable pub form_of : Mark → List ℕ → List ℕ
form_of mark vs = record_bytes (first_letter mark) (second_letter mark) (numbers_in (counted mark) vs)

pub length_form : (mark : Mark) (vs : List ℕ) → length (form_of mark vs) ≡ 2 + 4 * length (numbers_in (counted mark) vs)
unfolding form_of record_bytes
length_form mark vs = omega (arith, length-bytes (numbers_in (counted mark) vs))

-- ---- marks

mark_read : (file : List ℕ) (at : ℕ) (stage : Stage) (mark : Mark) → in_order mark stage ≡ true → get_or file at 0 ≡ first_letter mark → get_or file (at + 1) 0 ≡ second_letter mark
    → mark_at file at ≡ mark
unfolding mark_at node_mark_at is_mark
mark_read file at stage Theory o p q = rw (p, q)
mark_read file at stage Atom o p q = rw (p, q)
mark_read file at stage False o p q = rw (p, q)
mark_read file at stage Implies o p q = rw (p, q)
mark_read file at stage And o p q = rw (p, q)
mark_read file at stage Or o p q = rw (p, q)
mark_read file at stage Root o p q = rw (p, q)
mark_read file at stage Candidate o p q = rw (p, q)
mark_read file at stage Unknown o p q = absurd (false≢true o)

-- the letters of a mark in order stand there
abbrev Lettered : List ℕ → ℕ → Stage → Mark → Type 0
Lettered file at stage mark = in_order mark stage ≡ true → (get_or file at 0 ≡ first_letter mark) × (get_or file (at + 1) 0 ≡ second_letter mark)

module _ (file : List ℕ) (at : ℕ) (stage : Stage) where
  choice : (mark other : Mark) → Lettered file at stage other → Lettered file at stage (cond (is_mark file at (first_letter mark ∷ second_letter mark ∷ [])) mark other)
  unfolding is_mark
  choice mark other l = go (eqb (get_or file at 0) (first_letter mark)) refl (eqb (get_or file (at + 1) 0) (second_letter mark)) refl
    where
      go : (a : Bool) → eqb (get_or file at 0) (first_letter mark) ≡ a → (b : Bool) → eqb (get_or file (at + 1) 0) (second_letter mark) ≡ b → Lettered file at stage (cond (a && b) mark other)
      go true p true q k = (eqb-true _ _ p, eqb-true _ _ q)
      go true p false q k = l k
      go false p b q k = l k

  lettered : Lettered file at stage (mark_at file at)
  unfolding mark_at node_mark_at
  lettered =
      choice Theory _ (choice Root _ (choice Candidate _ (choice Atom _ (choice False _ (choice Implies _ (choice And _ (choice Or Unknown (λ k. absurd (false≢true k)))))))))

-- ---- reading what was written

-- what is read at a place where such a record stands
pub record Stands (file : List ℕ) (at : ℕ) (mark : Mark) (vs : List ℕ) : Type 0 where
  pub named : mark_at file at ≡ mark
  pub values : values_of file at mark ≡ vs
  pub end : record_end file at mark ≡ at + length (form_of mark vs)

module _ (file : List ℕ) (at : ℕ) (stage : Stage) (mark : Mark) (vs rest : List ℕ) (ordered : in_order mark stage ≡ true) (small : Below 4294967296 (numbers_in (counted mark) vs))
    (many : cond (counted mark) (length vs) (arity mark) ≡ length vs) (left : drop at file ≡ form_of mark vs ++ rest) where
  after_mark : drop (at + 2) file ≡ flat_map number_bytes (numbers_in (counted mark) vs) ++ rest
  unfolding form_of record_bytes
  after_mark = drop_past file at (first_letter mark ∷ second_letter mark ∷ []) (flat_map number_bytes (numbers_in (counted mark) vs) ++ rest) left

  laid_out : (b : Bool) → Below 4294967296 (numbers_in b vs) → cond b (length vs) (arity mark) ≡ length vs → drop (at + 2) file ≡ flat_map number_bytes (numbers_in b vs) ++ rest
      → (numbers file (cond b (at + 6) (at + 2)) (cond b (number file (at + 2)) (arity mark)) ≡ vs)
      × (cond b (at + 6) (at + 2) + 4 * cond b (number file (at + 2)) (arity mark) ≡ at + (2 + 4 * length (numbers_in b vs)))
  unfolding flat_map
  laid_out true s m e =
      let apart : drop (at + 2) file ≡ number_bytes (length vs) ++ (flat_map number_bytes vs ++ rest) = e ∙ append_assoc (number_bytes (length vs)) (flat_map number_bytes vs) rest in
      let on : at + 2 + 4 ≡ at + 6 = omega arith in
      rw (number_read file (at + 2) (length vs) _ s.0 apart)
      (numbers-read file (at + 6) vs rest s.1 (rw on at (past_number file (at + 2) (length vs) _ apart)), omega arith)
  laid_out false s m e = rw m (numbers-read file (at + 2) vs rest s e, omega arith)

  pub stands : Stands file at mark vs
  unfolding form_of record_bytes values_of record_end values_start value_count
  stands =
      let l = laid_out (counted mark) small many after_mark in
      record {
        named = mark_read file at stage mark ordered (rw add-zero at (letter 0)) (letter 1);
        values = l.0;
        end = rw (length_form mark vs) l.1;
      }
    where
      letter : (i : ℕ) → get_or file (at + i) 0 ≡ get_or (form_of mark vs ++ rest) i 0
      letter i = byte_at file at i (form_of mark vs ++ rest) left

-- ---- writing what was read

module _ (file : List ℕ) (bytes : Below 256 file) (at : ℕ) (stage : Stage) (mark : Mark) (ordered : in_order mark stage ≡ true) (named : mark_at file at ≡ mark) (whole : record_end file at mark ≤ length file) where
  two_letters : at + 2 ≤ length file → drop at file ≡ first_letter mark ∷ second_letter mark ∷ drop (at + 2) file
  two_letters h =
      let l = lettered file at stage (rw named ordered) in
      let one : at + 1 ≡ suc at = omega arith in
      let two : at + 2 ≡ suc (suc at) = omega arith in
      drop-cons file at 0 (omega arith) ∙ rw (two, drop-cons file (suc at) 0 (omega arith), ← one, l.0, l.1, named)

  laid_back : (b : Bool) → cond b (at + 6) (at + 2) + 4 * cond b (number file (at + 2)) (arity mark) ≤ length file
      → drop (at + 2) file
      ≡ flat_map number_bytes (numbers_in b (numbers file (cond b (at + 6) (at + 2)) (cond b (number file (at + 2)) (arity mark))))
      ++ drop (cond b (at + 6) (at + 2) + 4 * cond b (number file (at + 2)) (arity mark)) file
  unfolding flat_map
  laid_back true h =
      let count = number file (at + 2) in
      let vs = numbers file (at + 6) count in
      let on : at + 2 + 4 ≡ at + 6 = omega arith in
      number-written file bytes (at + 2) (omega arith)
      ∙ rw (on, length_numbers file (at + 6) count, append_assoc (number_bytes count) (flat_map number_bytes vs) (drop (at + 6 + 4 * count) file), ← numbers-written file bytes count (at + 6) h)
  laid_back false h = numbers-written file bytes (arity mark) (at + 2) h

  pub written : drop at file ≡ form_of mark (values_of file at mark) ++ drop (record_end file at mark) file
  unfolding form_of record_bytes values_of record_end values_start value_count
  written = two_letters (omega (arith, end_past file at mark)) ∙ rw (laid_back (counted mark) whole)
