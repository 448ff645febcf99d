-- The text of a file: what a run tells of it.
-- Assumes nothing.
use Rattle.std.specs.Prelude.{ℕ, ◌+◌, cond, List, [], ◌∷◌, ◌++◌, ltb, length, take, replicate, Ok, Err, Result}
use Rattle.theory.specs.declared.Counts.{Counts}
use Rattle.theory.specs.declared.Refusal.TheVariants.{PastLimit, ShortBuffer}
use Rattle.record.specs.File.{File, sound, refused, theory_file}
use Rattle.record.specs.declared.Summary.{Summary}
use Rattle.load.specs.Candidate.{candidate_words}
use Rattle.load.specs.Loading.{loading}
use Rattle.load.specs.Tables as tables
use Rattle.plan.specs.Outcome as planning
use Rattle.plan.specs.Outcome.{plan_outcome}
use Rattle.kept.specs.Tables.{Tables, atom_count}
use Rattle.kept.specs.Candidate.{Candidate}
use Rattle.kept.specs.Outcome as checks
use Rattle.kept.specs.Outcome.{outcome}
use Rattle.series.specs.Lent.{lent}
use Rattle.text.specs.Lines.{theory_line, ranks_line, verdict_line, refused_line}
use Rattle.theory.specs.declared.Refusal.{Refusal}

-- ---- the checks

-- the candidate of these atoms
unfoldable pub candidate_of : Tables → List ℕ → Candidate
candidate_of T atoms = record { stamp = T.counts.stamp; words = candidate_words (atom_count T) atoms }

unfoldable pub check_line : ℕ → checks.Answer → List ℕ
check_line i (checks.accepted v n) = verdict_line i v n
check_line i (checks.refused r) = refused_line r

-- one line a candidate, numbered from i on, each check on the words that the last one left
unfoldable pub check_lines : Tables → ℕ → List (List ℕ) → List ℕ → List ℕ
check_lines T i [] ws = []
check_lines T i (c ∷ cs) ws = check_line i (outcome 64 8 T (candidate_of T c) ws).answer ++ check_lines T (i + 1) cs (outcome 64 8 T (candidate_of T c) ws).words

-- ---- the plan, on the run's own buffers

unfoldable pub own_plan : Counts → List ℕ → List ℕ → List ℕ → planning.Outcome
own_plan t nodes operands roots = plan_outcome t nodes operands roots (replicate 2048 0) (replicate 512 0) (replicate 6658 0) (replicate 15376 0)

unfoldable pub answered : Counts → List ℕ → List ℕ → List ℕ → List (List ℕ) → planning.Outcome → Result ℕ Refusal → List ℕ
answered t nodes operands roots cs o (Ok p) =
    (theory_line t p ++ ranks_line (take t.atoms o.ranks)) ++ check_lines (lent t nodes operands roots p o) 0 cs (replicate 4112 0)
answered t nodes operands roots cs o (Err r) = refused_line r

unfoldable pub planned_text : Counts → List ℕ → List ℕ → List ℕ → List (List ℕ) → planning.Outcome → List ℕ
planned_text t nodes operands roots cs o = answered t nodes operands roots cs o o.answer

-- ---- the file

-- the run's own tables
abbrev pub own_tables : tables.Tables
own_tables = tables.tables (replicate 3072 0) (replicate 1024 0) (replicate 512 0)

unfoldable pub loaded_text : List (List ℕ) → Result Summary Refusal → tables.Tables → List ℕ
loaded_text cs (Ok s) b = planned_text s.counts b.nodes b.operands b.roots cs (own_plan s.counts b.nodes b.operands b.roots)
loaded_text cs (Err r) b = refused_line r

-- the candidates of a file
unfoldable pub candidates_of : File → List (List ℕ)
candidates_of (sound s t) = t.candidates
candidates_of (refused r) = []

abbrev pub candidates_in : List ℕ → List (List ℕ)
candidates_in file = candidates_of (theory_file file)

-- a sound file: more than 512 atoms are refused for the candidate's buffer, 0
unfoldable pub sound_text : Summary → File → List ℕ
sound_text s f = cond (ltb 512 s.counts.atoms) (refused_line (ShortBuffer 0)) (loaded_text (candidates_of f) (loading f own_tables).answer (loading f own_tables).left)

unfoldable pub file_text : File → List ℕ
file_text (sound s t) = sound_text s (sound s t)
file_text (refused r) = refused_line r

-- the 65,537th byte comes first
unfoldable pub text_of : List ℕ → List ℕ
text_of file = cond (ltb 65536 (length file)) (refused_line (PastLimit 65536)) (file_text (theory_file file))
