-- What demand 3 says of a series of checks: each is given the words of the kept evaluation that the last one left.
-- Assumes nothing.
use Rattle.std.specs.Prelude.{ℕ, ◌<◌, ◌≤◌, ◌≡◌, Bool, true, false, cond, List, [], ◌∷◌, ◌++◌, length, replicate, Option, Some, None}
use Rattle.base.specs.Places.{places, count}
use Rattle.formula.specs.Removable.{LowestRemovable}
use Rattle.theory.specs.NodeFormula.{theory_of}
use Rattle.theory.specs.declared.Refusal.{Refusal}
use Rattle.theory.specs.declared.Refusal.TheVariants.{BadEntry}
use Rattle.kept.specs.Tables.{Tables, node_count}
use Rattle.kept.specs.Evaluation.{fresh}
use Rattle.kept.specs.Verdict.{Verdict, residual}
use Rattle.kept.specs.Dirty.{dirty}
use Rattle.kept.specs.Walk.{ended, kept_walk}
use Rattle.kept.specs.Check.{most, is_kept}
use Rattle.kept.specs.Changed.{changed_atoms}
use Rattle.kept.specs.Layout.{of_words, listed}
use Rattle.kept.specs.Decides.{DecidesTheory}
use Rattle.kept.specs.Candidate.{Candidate, atoms_of}
use Rattle.kept.specs.Tests.{tests}
use Rattle.kept.specs.Outcome.{Answer, accepted, refused, outcome}
use Rattle.theory.specs.Admission.{admitted}

abbrev pub is_accepted : Answer → Bool
is_accepted (accepted v n) = true
is_accepted (refused r) = false

-- zeroed words, with any words past the listed ones
abbrev pub zeroed_words : Tables → List ℕ → List ℕ
zeroed_words T past = replicate (listed T) 0 ++ past

module _ (floor divisor : ℕ) (T : Tables) where
  abbrev pub answer_to : Candidate → List ℕ → Answer
  answer_to c ws = (outcome floor divisor T c ws).answer

  abbrev pub words_after : Candidate → List ℕ → List ℕ
  words_after c ws = (outcome floor divisor T c ws).words

  -- after all checks of a series
  unfoldable pub series_words : List ℕ → List Candidate → List ℕ
  series_words ws [] = ws
  series_words ws (c ∷ cs) = series_words (words_after c ws) cs

  -- the last candidate that it accepts, o before it
  unfoldable pub last_accepted : List ℕ → Option Candidate → List Candidate → Option Candidate
  last_accepted ws o [] = o
  last_accepted ws o (c ∷ cs) = last_accepted (words_after c ws) (cond (is_accepted (answer_to c ws)) (Some c) o) cs

  -- what a check of that candidate makes of zeroed words
  abbrev pub anew : List ℕ → Option Candidate → List ℕ
  anew zeros None = zeros
  anew zeros (Some c) = words_after c zeros

  -- the check is a kept one
  abbrev pub Kept : List ℕ → Candidate → Type 0
  Kept ws c = is_kept floor divisor T (atoms_of T c) (of_words T ws) ≡ true

  abbrev pub Fresh : List ℕ → Candidate → Type 0
  Fresh ws c = is_kept floor divisor T (atoms_of T c) (of_words T ws) ≡ false

  -- the nodes gone over, where d was the last accepted candidate: a kept check's walk takes exactly the dirty nodes, each once,
  -- rising, and their number is reported; a fresh check reports the number of all nodes
  abbrev pub GoneOver : Option Candidate → List ℕ → Candidate → ℕ → Type 0
  GoneOver None ws c n = Fresh ws c × (n ≡ node_count T)
  GoneOver (Some d) ws c n =
      (changed_atoms T (atoms_of T d) (atoms_of T c) ≤ most floor divisor T
      → Kept ws c
      × (kept_walk T (atoms_of T c) (of_words T ws) ≡ ended (places (dirty T (atoms_of T d) (atoms_of T c)) 0 (node_count T)) (fresh T (atoms_of T c)))
      × (n ≡ count (dirty T (atoms_of T d) (atoms_of T c)) 0 (node_count T)))
      × (most floor divisor T < changed_atoms T (atoms_of T d) (atoms_of T c) → Fresh ws c × (n ≡ node_count T))

  -- one check of the series: o the last candidate accepted before it, ws the words that it is lent
  pub record SeriesCheck (zeros : List ℕ) (o : Option Candidate) (ws : List ℕ) (c : Candidate) : Type 0 where
    pub never_17 : (k : ℕ) → answer_to c ws ≡ refused (BadEntry k) → ⊥
    pub let_pass : tests T c (length ws) ≡ admitted → is_accepted (answer_to c ws) ≡ true
    pub unaltered : (r : Refusal) → answer_to c ws ≡ refused r → words_after c ws ≡ ws
    pub as_fresh : (v : Verdict) (n : ℕ) → answer_to c ws ≡ accepted v n → outcome floor divisor T c zeros ≡ record { answer = accepted v (node_count T); words = words_after c ws }
    pub decides : (v : Verdict) (n : ℕ) → answer_to c ws ≡ accepted v n → DecidesTheory T.counts T.nodes T.operands T.roots (atoms_of T c) v
    -- what a residual shows: its atom is the lowest that can be taken out of the candidate
    pub residual_shows : (a n : ℕ) → answer_to c ws ≡ accepted (residual a) n → LowestRemovable (atoms_of T c) (theory_of T.counts T.nodes T.operands T.roots) a
    pub gone_over_is : (v : Verdict) (n : ℕ) → answer_to c ws ≡ accepted v n → GoneOver o ws c n

  -- demand 3: the words after every series, and each check in it
  pub record Demand3 (past : List ℕ) (cs : List Candidate) : Type 0 where
    pub after : series_words (zeroed_words T past) cs ≡ anew (zeroed_words T past) (last_accepted (zeroed_words T past) None cs)
    pub each : (before : List Candidate) (c : Candidate) (later : List Candidate) → cs ≡ before ++ c ∷ later
        → SeriesCheck (zeroed_words T past) (last_accepted (zeroed_words T past) None before) (series_words (zeroed_words T past) before) c
