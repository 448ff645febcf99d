-- A file that is not sound is refused with a number from 1 to 8.
-- Assumes nothing.
use Rattle.std.specs.Prelude.{Result, Ok, Err, is_ok}
use Prim.Native.Nat.{ℕ, zero, suc, ◌+◌, ◌≤◌}
use native.Mathlib.Omega.{arith}
use mathlib.Core.Path.{◌≡◌, refl, sym, subst}
use mathlib.Core.Bool.{Bool, true, false, cond, not}
use mathlib.Core.List.{List}
use lib.Dec.{eqb, leb}
use lib.ListN.{length}
use Rattle.theory.specs.Admission.{all_below}
use Rattle.theory.specs.Limits.{limits_of}
use Rattle.theory.specs.Refusal.{told, number_of}
use Rattle.theory.specs.declared.Refusal.{Refusal}
use Rattle.theory.specs.declared.Refusal.TheVariants.{BadKind, CutRecord, PastLimit, BadAtom, BadOperand, NoOperands, BadRoot, NotRising}
use Rattle.record.specs.Stage.{at_start}
use Rattle.record.specs.Mark.{mark_at, in_order}
use Rattle.record.specs.Rising.{rising}
use Rattle.record.specs.Layout.{record_end, values_of}
use Rattle.record.specs.Passed.{counts_after}
use Rattle.record.specs.Record.{unless, judged_group, judged_values, judged_whole, judged_marked, judged}
use Rattle.record.specs.Contents.{Contents, nothing, joined, of_next}
use Rattle.record.specs.File.{sound, refused, summary, ended, read_from, start, theory_file}
use Rattle.record.specs.declared.Cursor.{Cursor}
use Rattle.record.specs.declared.Mark.{Mark}
use Rattle.record.specs.declared.Mark.TheVariants.{Theory, Atom, False, Implies, And, Or, Root, Candidate, Unknown}
use Rattle.record.proofs.Steps.{refused_next}

-- ---- one record

module _ (r : Refusal) where
  -- a test's own refusal, or one of what is left
  by_test : (b : Bool) (x : Refusal) (s : Result Cursor Refusal) → number_of x ≤ 8 → (s ≡ Err r → number_of r ≤ 8) → unless b x s ≡ Err r → number_of r ≤ 8
  unfolding unless
  by_test true x s f h e = h e
  by_test false x s f h e = let q : x ≡ r = cc in rw q at f

  by_group : (c : Cursor) (vs : List ℕ) (s : Result Cursor Refusal) → (s ≡ Err r → number_of r ≤ 8) → judged_group c vs s ≡ Err r → number_of r ≤ 8
  unfolding judged_group told
  by_group c vs s h = by_test (not (eqb (length vs) 0)) (NoOperands c.records) _ (omega arith) (by_test (all_below c.counts.nodes vs) (BadOperand c.records) s (omega arith) h)

  by_values : (c : Cursor) (mark : Mark) (vs : List ℕ) (s : Result Cursor Refusal) → (s ≡ Err r → number_of r ≤ 8) → judged_values c mark vs s ≡ Err r → number_of r ≤ 8
  unfolding judged_values told
  by_values c Theory vs s h = h
  by_values c Atom vs s h = by_test (all_below c.counts.atoms vs) (BadAtom c.records) s (omega arith) h
  by_values c False vs s h = h
  by_values c Implies vs s h = by_test (all_below c.counts.nodes vs) (BadOperand c.records) s (omega arith) h
  by_values c And vs s h = by_group c vs s h
  by_values c Or vs s h = by_group c vs s h
  by_values c Root vs s h = by_test (all_below c.counts.nodes vs) (BadRoot c.records) s (omega arith) h
  by_values c Candidate vs s h =
      by_test (all_below c.counts.atoms vs) (BadAtom c.records) _ (omega arith) (by_test (rising vs) (NotRising c.records) s (omega arith) h)
  by_values c Unknown vs s h = h

  by_record : (file : List ℕ) (c : Cursor) → judged file c ≡ Err r → number_of r ≤ 8
  unfolding judged judged_marked judged_whole told
  by_record file c =
      let mark = mark_at file c.at in
      let vs = values_of file c.at mark in
      by_test (leb (c.at + 2) (length file)) (CutRecord c.records) _ (omega arith)
      (by_test (in_order mark c.stage) (BadKind c.records) _ (omega arith)
      (by_test (leb (record_end file c.at mark) (length file)) (CutRecord c.records) _ (omega arith)
      (by_test (is_ok (limits_of (counts_after c.counts mark vs))) (PastLimit c.records) _ (omega arith)
      (by_values c mark vs _ (λ e. absurd (refused_next r _ (sym e)))))))

  -- ---- the file

  by_end : (c : Cursor) (t : Contents) → ended c t ≡ refused r → number_of r ≤ 8
  unfolding ended told
  by_end c t = go (at_start c.stage)
    where
      go : (b : Bool) → cond b (refused (BadKind c.records)) (sound (summary c) t) ≡ refused r → number_of r ≤ 8
      go true e = let q : BadKind c.records ≡ r = cc in subst (λ (x : Refusal). number_of x ≤ 8) q (omega arith)
      go false e = let z : ◌≡◌ {A = ℕ} 0 1 = cc in absurd (omega arith)

  by-rest : (file : List ℕ) (c : Cursor) (t : Contents) (n : ℕ) → read_from file c t n ≡ refused r → number_of r ≤ 8
  unfolding read_from
  by-rest file c t zero e = by_end c t e
  by-rest file c t (suc n) e = go (eqb c.at (length file)) (judged file c) refl (λ next. by-rest file next (joined t (of_next file c)) n) e
    where
      go : (b : Bool) (x : Result Cursor Refusal) → judged file c ≡ x → ((next : Cursor) → read_from file next (joined t (of_next file c)) n ≡ refused r → number_of r ≤ 8)
          → cond b (ended c t) (elim x [ Ok next ↦ read_from file next (joined t (of_next file c)) n | Err q ↦ refused q ]) ≡ refused r → number_of r ≤ 8
      go true x j ih h = by_end c t h
      go false (Ok next) j ih h = ih next h
      go false (Err q) j ih h = let same : q ≡ r = cc in by_record file c (rw same at j)

  pub file_refusal : (file : List ℕ) → theory_file file ≡ refused r → number_of r ≤ 8
  unfolding theory_file
  file_refusal file e = by-rest file start nothing (length file) e
