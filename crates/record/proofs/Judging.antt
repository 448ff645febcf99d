-- The loop over the records: what each turn and each exit gives.
-- Assumes nothing.
use Rattle.std.specs.Prelude.{Result, Ok, Err}
use Prim.Native.Nat.{ℕ, zero, suc, ◌+◌, ◌-◌, ◌<◌, ◌≤◌}
use native.Mathlib.Omega.{arith}
use mathlib.Core.Path.{◌≡◌, refl, sym, ap, ◌∙◌}
use mathlib.Core.Bool.{Bool, true, false, cond}
use mathlib.Core.List.{List}
use lib.Dec.{eqb}
use lib.ListN.{length}
use borrow.Author.Tests.{eq-eqb, ne_eqb}
use Rattle.theory.specs.declared.Refusal.{Refusal}
use Rattle.theory.specs.declared.Refusal.TheVariants.{BadKind}
use Rattle.theory.specs.Limits.{Limited}
use Rattle.record.specs.Stage.{at_start}
use Rattle.record.specs.Record.{judged}
use Rattle.record.specs.Contents.{Contents, nothing, joined, of_next}
use Rattle.record.specs.File.{File, sound, refused, summary, ended, read_from, start, theory_file, verdict}
use Rattle.record.specs.Bounds.{Within}
use Rattle.record.specs.declared.Stage.TheVariants.{Start}
use Rattle.record.specs.declared.Cursor.{Cursor}
use Rattle.record.specs.declared.Summary.{Summary}
use Rattle.record.proofs.Stages.{no_start}
use Rattle.base.specs.Raised.{raised}
use native.Mathlib.Nat.{sub-zero}
use Rattle.record.proofs.Steps.{next_within, start_within}

-- ---- one turn of the definition

module _ (file : List ℕ) (c : Cursor) (t : Contents) where
  pub read_end : (n : ℕ) → c.at ≡ length file → read_from file c t n ≡ ended c t
  unfolding read_from
  read_end zero e = refl
  read_end (suc n) e = rw (eq-eqb c.at (length file) e)

  pub read-refused : (n : ℕ) (r : Refusal) → c.at < length file → judged file c ≡ Err r → read_from file c t (suc n) ≡ refused r
  unfolding read_from
  read-refused n r h e = rw (ne_eqb c.at (length file) (λ q. omega arith), e)

  pub read_next : (n : ℕ) (next : Cursor) → c.at < length file → judged file c ≡ Ok next → read_from file c t (suc n) ≡ read_from file next (joined t (of_next file c)) n
  unfolding read_from
  read_next n next h e = rw (ne_eqb c.at (length file) (λ q. omega arith), e, read_from)

-- ---- the verdict does not go by what was read before

verdict-ended : (c : Cursor) (t u : Contents) → verdict (ended c t) ≡ verdict (ended c u)
unfolding verdict ended
verdict-ended c t u = go (at_start c.stage)
  where
    go : (b : Bool) → verdict (cond b (refused (BadKind c.records)) (sound (summary c) t)) ≡ verdict (cond b (refused (BadKind c.records)) (sound (summary c) u))
    go true = refl
    go false = refl

pub verdict_same : (file : List ℕ) (c : Cursor) (t u : Contents) (n : ℕ) → verdict (read_from file c t n) ≡ verdict (read_from file c u n)
unfolding read_from
verdict_same file c t u zero = verdict-ended c t u
verdict_same file c t u (suc n) = go (eqb c.at (length file)) (judged file c) (λ next. verdict_same file next (joined t (of_next file c)) (joined u (of_next file c)) n)
  where
    go : (b : Bool) (s : Result Cursor Refusal) → ((next : Cursor) → verdict (read_from file next (joined t (of_next file c)) n) ≡ verdict (read_from file next (joined u (of_next file c)) n))
        → verdict (cond b (ended c t) (elim s [ Ok next ↦ read_from file next (joined t (of_next file c)) n | Err r ↦ refused r ]))
        ≡ verdict (cond b (ended c u) (elim s [ Ok next ↦ read_from file next (joined u (of_next file c)) n | Err r ↦ refused r ]))
    go true s ih = verdict-ended c t u
    go false (Ok next) ih = ih next
    go false (Err r) ih = refl

-- ---- the loop of `judge`: `whole` is the verdict from the cursor on

module _ (file : List ℕ) (c : Cursor) (whole : Result Summary Refusal) (w : Within (length file) c) (rest : whole ≡ verdict (read_from file c nothing (length file - c.records))) where
  one_more : c.at < length file → length file - c.records ≡ suc (length file - (c.records + 1))
  one_more h = omega (arith, w.records)

  pub judge_stop : (r : Refusal) → c.at < length file → judged file c ≡ Err r → Err r ≡ whole
  unfolding verdict
  judge_stop r h e = sym (rest ∙ rw (one_more h, read-refused file c nothing _ r h e))

  pub judge_go : (next : Cursor) → c.at < length file → judged file c ≡ Ok next → whole ≡ verdict (read_from file next nothing (length file - next.records))
  judge_go next h e =
      let left : length file - c.records ≡ suc (length file - next.records) = omega (arith, w.records, (next_within file c next e w).2) in
      rest ∙ rw (left, read_next file c nothing _ next h e) (verdict_same file next (joined nothing (of_next file c)) nothing (length file - next.records))

  judge_end : length file ≤ c.at → whole ≡ verdict (ended c nothing)
  judge_end h = rest ∙ rw (read_end file c nothing (length file - c.records) (omega (arith, w.at)))

  pub judge_empty : length file ≤ c.at → c.stage ≡ Start → Err (BadKind c.records) ≡ whole
  unfolding verdict ended
  judge_empty h e = sym (judge_end h ∙ rw e)

  pub judge_sound : length file ≤ c.at → (c.stage ≡ Start → ⊥) → Ok (summary c) ≡ whole
  unfolding verdict ended
  judge_sound h e = sym (judge_end h ∙ rw (no_start c.stage e))

pub ruleset judge_turns = (start_within, next_within, judge_stop, judge_go, judge_empty, judge_sound, raised, sub-zero)

-- ---- a sound file

-- what every record keeps holds at the end of a sound file
module _ (file : List ℕ) (P : Cursor → Contents → Type 0)
    (step : (c next : Cursor) (t : Contents) → judged file c ≡ Ok next → P c t → P next (joined t (of_next file c))) (s : Summary) (u : Contents) where
  ended_keeps : (c : Cursor) (t : Contents) → P c t → ended c t ≡ sound s u → (e : Cursor) × P e u × (summary e ≡ s)
  unfolding ended
  ended_keeps c t p = go (at_start c.stage)
    where
      go : (b : Bool) → cond b (refused (BadKind c.records)) (sound (summary c) t) ≡ sound s u → (e : Cursor) × P e u × (summary e ≡ s)
      go true e = let z : ◌≡◌ {A = ℕ} 0 1 = cc in absurd (omega arith)
      go false e = let q : t ≡ u = cc in (c, rw q at p, cc)

  pub read_keeps : (c : Cursor) (t : Contents) (n : ℕ) → P c t → read_from file c t n ≡ sound s u → (e : Cursor) × P e u × (summary e ≡ s)
  unfolding read_from
  read_keeps c t zero p e = ended_keeps c t p e
  read_keeps c t (suc n) p e = go (eqb c.at (length file)) (judged file c) refl (λ next. read_keeps next (joined t (of_next file c)) n) e
    where
      go : (b : Bool) (x : Result Cursor Refusal) → judged file c ≡ x
          → ((next : Cursor) → P next (joined t (of_next file c)) → read_from file next (joined t (of_next file c)) n ≡ sound s u → (e : Cursor) × P e u × (summary e ≡ s))
          → cond b (ended c t) (elim x [ Ok next ↦ read_from file next (joined t (of_next file c)) n | Err r ↦ refused r ]) ≡ sound s u
          → (e : Cursor) × P e u × (summary e ≡ s)
      go true x j ih h = ended_keeps c t p h
      go false (Ok next) j ih h = ih next (step c next t j p) h
      go false (Err r) j ih h = let z : ◌≡◌ {A = ℕ} 0 1 = cc in absurd (omega arith)

unfoldable pub contents_of : File → Contents
contents_of (sound s t) = t
contents_of (refused r) = nothing

pub sound-is : (f : File) (s : Summary) → verdict f ≡ Ok s → f ≡ sound s (contents_of f)
unfolding verdict contents_of
sound-is (sound s' t) s e = cc
sound-is (refused r) s e = let k : ◌≡◌ {A = ℕ} 0 1 = cc in absurd (omega arith)

pub refused_is : (f : File) (r : Refusal) → verdict f ≡ Err r → f ≡ refused r
unfolding verdict
refused_is (sound s t) r e = let k : ◌≡◌ {A = ℕ} 0 1 = cc in absurd (omega arith)
refused_is (refused r') r e = cc

-- it is within the limits
pub sound-limited : (file : List ℕ) (s : Summary) (t : Contents) → theory_file file ≡ sound s t → Limited s.counts
unfolding theory_file
sound-limited file s t e =
    let k = read_keeps file (λ c u. Within (length file) c) (λ c next u j w. (next_within file c next j w).0) s t start nothing (length file) (start_within (length file)) e in
    rw (ap (λ q. q.counts) k.2) at k.1.limited
