-- What the text of a run tells of a file: a refusal with its reason, or the plan's two lines and a verdict line for each candidate.
-- Assumes nothing.
use Rattle.std.specs.Prelude.{ℕ, ◌<◌, ◌≤◌, ◌≡◌, ◌⊎◌, ◌↔◌, true, false, List, [], ◌∷◌, ◌++◌, length, get_or, take, Ok, Err}
use Rattle.base.specs.Each.{Each}
use Rattle.formula.specs.Formula.{of_list}
use Rattle.formula.specs.Satisfaction.{all}
use Rattle.formula.specs.Stable.{Stable}
use Rattle.formula.specs.Removable.{LowestRemovable}
use Rattle.theory.specs.Refusal.{number_of}
use Rattle.theory.specs.declared.Refusal.{Refusal}
use Rattle.theory.specs.declared.Refusal.TheVariants.{PastLimit, ShortBuffer, UnsupportedRoot, UnsupportedBody, PositiveCycle}
use Rattle.record.specs.File.{refused, theory_file}
use Rattle.load.specs.Candidate.{among}
use Rattle.encoding.specs.Value.{TheoryFile}
use Rattle.encoding.specs.Encoding.{encoded}
use Rattle.encoding.specs.Held.{counts_of, summary_of}
use Rattle.encoding.specs.Sound.{Sound}
use Rattle.encoding.specs.Theory.{theory}
use Rattle.kept.specs.Verdict.{Verdict, residual}
use Rattle.kept.specs.Layout.{flat}
use Rattle.kept.specs.Decides.{Decides}
use Rattle.text.specs.Decimal.{decimal, Digit, value}
use Rattle.text.specs.Lines.{stable_word, not_model_word, residual_word, theory_line, ranks_line, verdict_line, refused_line}
use Rattle.run.specs.Text.{text_of}
use Rattle.run.specs.Planned.{plan_made}

-- the file is the encoding of f, a sound theory with its candidates, and short enough for a run; no two have the same bytes (`encoding/proofs/Encoding.encoded-only`)
pub record Encodes (file : List ℕ) (f : TheoryFile) : Type 0 where
  pub short : length file ≤ 65536
  pub sound : Sound f
  pub bytes : encoded f ≡ file

-- line number i is that of a verdict, which decides the theory of f for the candidate with the atoms c
pub record LineTells (f : TheoryFile) (i : ℕ) (c line : List ℕ) : Type 0 where
  pub verdict : Verdict
  pub nodes_gone_over : ℕ
  pub says : line ≡ verdict_line i verdict nodes_gone_over
  pub decides : Decides f.roots (theory f) (λ a. among a c) verdict
  -- what a residual shows: its atom is the lowest that can be taken out of the candidate
  pub residual_shows : (a : ℕ) → verdict ≡ residual a → LowestRemovable (λ b. among b c) (theory f) a

-- in its bytes: after the number i the line goes on with this word
abbrev pub Says : ℕ → List ℕ → List ℕ → Type 0
Says i word line = (rest : List ℕ) × (line ≡ decimal i ++ (word ++ rest))

-- the word `residual`, and these digits between two spaces
abbrev pub residual_of : List ℕ → List ℕ
residual_of digits = residual_word ++ (32 ∷ (digits ++ (32 ∷ [])))

-- the word of the line says what the candidate is
pub record WordTells (f : TheoryFile) (i : ℕ) (c line : List ℕ) : Type 0 where
  pub stable : Says i stable_word line ↔ Stable (λ a. among a c) (of_list (theory f))
  pub is_not_model : Says i not_model_word line ↔ (all (λ a. among a c) (of_list (theory f)) ≡ false)
  pub residual : Says i residual_word line ↔ ((all (λ a. among a c) (of_list (theory f)) ≡ true) × (Stable (λ a. among a c) (of_list (theory f)) → ⊥))
  -- after `residual` stand digits between two spaces, and they say the lowest atom that can be taken out
  pub residual_digits : Says i residual_word line → (digits : List ℕ) × Each Digit digits × Says i (residual_of digits) line
  pub residual_shows : (digits : List ℕ) → Each Digit digits → Says i (residual_of digits) line → LowestRemovable (λ a. among a c) (theory f) (value digits)

-- the number of a plan's refusal within a run: 10, 11 or 12
abbrev pub Unplannable : Refusal → Type 0
Unplannable r = ((k : ℕ) × (r ≡ UnsupportedRoot k)) ⊎ (((k : ℕ) × (b : ℕ) × (r ≡ UnsupportedBody k b)) ⊎ ((a : ℕ) × (r ≡ PositiveCycle a)))

pub data Told (file : List ℕ) : Type 0 where
  -- 3: the 65,537th byte
  too_long : 65536 < length file → text_of file ≡ refused_line (PastLimit 65536) → Told file
  -- 1 to 8: the file encodes no sound theory
  unsound : (r : Refusal) → length file ≤ 65536 → ((f : TheoryFile) → Sound f → encoded f ≡ file → ⊥) → theory_file file ≡ refused r → number_of r ≤ 8 → text_of file ≡ refused_line r → Told file
  -- 9: the theory is greater than the run's own tables, of which the lowest is named
  many_atoms : (f : TheoryFile) → Encodes file f → 512 < f.atoms → text_of file ≡ refused_line (ShortBuffer 0) → Told file
  many_nodes : (f : TheoryFile) → Encodes file f → f.atoms ≤ 512 → 1024 < length f.nodes → text_of file ≡ refused_line (ShortBuffer 1) → Told file
  many_operands : (f : TheoryFile) → Encodes file f → f.atoms ≤ 512 → length f.nodes ≤ 1024 → 1024 < (counts_of f).operands → text_of file ≡ refused_line (ShortBuffer 2) → Told file
  many_roots : (f : TheoryFile) → Encodes file f → f.atoms ≤ 512 → length f.nodes ≤ 1024 → (counts_of f).operands ≤ 1024 → 512 < length f.roots
      → text_of file ≡ refused_line (ShortBuffer 3) → Told file
  -- 10, 11 or 12: the theory has no plan
  unplanned : (f : TheoryFile) (r : Refusal) → Encodes file f → (plan_made file (summary_of f)).answer ≡ Err r → Unplannable r → text_of file ≡ refused_line r → Told file
  -- two lines of the plan, and one verdict line for each candidate in the file
  judged : (f : TheoryFile) (p : ℕ) (lines : List (List ℕ)) → Encodes file f → (plan_made file (summary_of f)).answer ≡ Ok p
      → text_of file ≡ (theory_line (counts_of f) p ++ ranks_line (take f.atoms (plan_made file (summary_of f)).ranks)) ++ flat lines → length lines ≡ length f.candidates
      → ((i : ℕ) → i < length f.candidates → LineTells f i (get_or f.candidates i []) (get_or lines i []))
      → Told file
