-- The candidates of a sound file: each begins where the last one ended, and `candidate` may be called at its place.
-- Assumes nothing.
use Rattle.std.specs.Prelude.{Ok}
use Prim.Native.Nat.{ℕ, ◌+◌, ◌<◌, ◌≤◌}
use native.Mathlib.Numerals.{add-one}
use native.Mathlib.Omega.{arith}
use mathlib.Core.Path.{◌≡◌, refl, sym, ap, subst, ◌∙◌}
use mathlib.Core.Logic.{⊎_elim}
use mathlib.Core.Bool.{true, false≢true}
use mathlib.Core.List.{List, [], ◌∷◌, ◌++◌, append-nil}
use lib.ListN.{length, get_or, length-append, get_or-append}
use lib.Seq.{get_or_at}
use Rattle.base.specs.Tests.{below_or}
use Rattle.base.specs.Each.{Each}
use Rattle.theory.specs.Spans.{all_below_each}
use Rattle.record.specs.Mark.{mark_at, in_order}
use Rattle.record.specs.Layout.{record_end, values_of}
use Rattle.record.specs.Passed.{counts_after, passed}
use Rattle.record.specs.Record.{judged_values, judged}
use Rattle.record.specs.Contents.{Contents, nothing, joined, of_record, of_next}
use Rattle.record.specs.File.{sound, start, theory_file}
use Rattle.record.specs.declared.Cursor.{Cursor}
use Rattle.record.specs.declared.Mark.{Mark}
use Rattle.record.specs.declared.Mark.TheVariants.{Theory, Atom, False, Implies, And, Or, Root, Candidate, Unknown}
use Rattle.record.specs.declared.Stage.TheVariants as stage
use Rattle.record.specs.declared.Summary.{Summary}
use Rattle.record.proofs.Steps.{unless_next, next_passed}
use Rattle.record.proofs.Judging.{read_keeps}
use Rattle.load.specs.Candidate.{CandidateAt, place_of}

-- so many candidates from `first` on, over these atoms, are the ones in the list
pub record Candidates (file : List ℕ) (atoms first count : ℕ) (cs : List (List ℕ)) : Type 0 where
  pub so_many : length cs ≡ count
  pub stands : (i : ℕ) → i < count → CandidateAt file atoms (place_of file first i)
  pub holds : (i : ℕ) → i < count → get_or cs i [] ≡ values_of file (place_of file first i) Candidate

none : (file : List ℕ) (atoms first count : ℕ) (cs : List (List ℕ)) → count ≡ 0 → length cs ≡ 0 → Candidates file atoms first count cs
none file atoms first count cs e l =
    record { so_many = omega arith; stands = λ i h. absurd (omega arith); holds = λ i h. absurd (omega arith) }

-- one more
next_one : (file : List ℕ) (atoms first count : ℕ) (cs : List (List ℕ)) (vs : List ℕ) → Candidates file atoms first count cs
    → CandidateAt file atoms (place_of file first count) → vs ≡ values_of file (place_of file first count) Candidate
    → Candidates file atoms first (count + 1) (cs ++ (vs ∷ []))
next_one file atoms first count cs vs k a e =
    record {
      so_many = rw length-append (omega (arith, k.so_many));
      stands = λ i h. ⊎_elim (λ l. k.stands i l) (λ l. let here : i ≡ count = omega arith in rw here a) (below_or i count);
      holds =
          λ i h. ⊎_elim (λ l. get_or-append cs (vs ∷ []) [] i (omega (arith, k.so_many)) ∙ k.holds i l)
          (λ l. let here : i ≡ count = omega arith in rw here (get_or_at cs vs [] [] count k.so_many ∙ e)) (below_or i count);
    }

-- the candidates read before the cursor
pub record Read (file : List ℕ) (c : Cursor) (cs : List (List ℕ)) : Type 0 where
  pub read : Candidates file c.counts.atoms c.first c.candidates cs
  pub here : c.at ≡ place_of file c.first c.candidates
  pub before : (c.stage ≡ stage.Candidates → ⊥) → c.candidates ≡ 0

module _ (file : List ℕ) (c : Cursor) (cs : List (List ℕ)) (r : Read file c cs) where
  -- a record that is no candidate comes before all of them
  other : (c.stage ≡ stage.Candidates → ⊥) → (next : Cursor) → next.at ≡ next.first → next.candidates ≡ c.candidates → Read file next (cs ++ [])
  unfolding place_of
  other h next p q =
      let z = r.before h in
      let y : next.candidates ≡ 0 = q ∙ z in
      record {
        read = none file next.counts.atoms next.first next.candidates (cs ++ []) y (ap length (append-nil cs) ∙ r.read.so_many ∙ z);
        here = p ∙ sym (ap (place_of file next.first) y);
        before = λ l. y;
      }

  module _ (n : Cursor) (vs : List ℕ) where
    read_next : (mark : Mark) → in_order mark c.stage ≡ true → judged_values c mark vs (Ok n) ≡ Ok n → record_end file c.at mark ≤ length file
        → vs ≡ values_of file c.at mark
        → Read file (passed c mark (counts_after c.counts mark vs) (record_end file c.at mark)) (cs ++ (of_record c.counts.operands mark vs).candidates)
    unfolding judged_values place_of
    read_next Theory o j w e = other (λ q. false≢true (rw q at o)) (passed c Theory (counts_after c.counts Theory vs) (record_end file c.at Theory)) refl refl
    read_next Atom o j w e = other (λ q. false≢true (rw q at o)) (passed c Atom (counts_after c.counts Atom vs) (record_end file c.at Atom)) refl refl
    read_next False o j w e = other (λ q. false≢true (rw q at o)) (passed c False (counts_after c.counts False vs) (record_end file c.at False)) refl refl
    read_next Implies o j w e = other (λ q. false≢true (rw q at o)) (passed c Implies (counts_after c.counts Implies vs) (record_end file c.at Implies)) refl refl
    read_next And o j w e = other (λ q. false≢true (rw q at o)) (passed c And (counts_after c.counts And vs) (record_end file c.at And)) refl refl
    read_next Or o j w e = other (λ q. false≢true (rw q at o)) (passed c Or (counts_after c.counts Or vs) (record_end file c.at Or)) refl refl
    read_next Root o j w e =
        other (λ q. false≢true (rw q at o)) (passed c Root (counts_after c.counts Root vs) (record_end file c.at Root)) refl refl
    read_next Candidate o j w e =
        record {
          read =
              next_one file c.counts.atoms c.first c.candidates cs vs r.read
              (rw (← r.here) (record { whole = w; below = rw e at (unless_next _ _ _ n j).0 }))
              (rw (← r.here) e);
          here = rw (add-one, ← r.here) refl;
          before = λ l. absurd (l refl);
        }
    read_next Unknown o j w e = absurd (false≢true o)

record_read : (file : List ℕ) (c next : Cursor) (t : Contents) → judged file c ≡ Ok next → Read file c t.candidates → Read file next (joined t (of_next file c)).candidates
unfolding of_next
record_read file c next t e r =
    let p = next_passed file c next e in
    rw p.next_is
    (read_next file c t.candidates r next (values_of file c.at (mark_at file c.at)) (mark_at file c.at) p.ordered p.values p.whole refl)

read_start : (file : List ℕ) → Read file start []
unfolding place_of
read_start file = record { read = none file 0 0 0 [] refl refl; here = refl; before = λ l. refl }

-- of a sound file
pub sound_candidates : (file : List ℕ) (s : Summary) (t : Contents) → theory_file file ≡ sound s t
    → Candidates file s.counts.atoms s.first s.candidates t.candidates
unfolding theory_file
sound_candidates file s t e =
    let k = read_keeps file (λ c u. Read file c u.candidates) (record_read file) s t start nothing (length file) (read_start file) e in
    subst (λ (q : Summary). Candidates file q.counts.atoms q.first q.candidates t.candidates) k.2 k.1.read

-- every candidate's atoms are below `atoms`
pub candidates_below : (file : List ℕ) (s : Summary) (t : Contents) → theory_file file ≡ sound s t
    → (i : ℕ) → i < s.candidates → Each (λ a. a < s.counts.atoms) (get_or t.candidates i [])
candidates_below file s t e i h =
    let k = sound_candidates file s t e in
    rw (k.holds i h) (all_below_each s.counts.atoms _ (k.stands i h).below)
