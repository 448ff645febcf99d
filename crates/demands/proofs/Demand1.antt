-- DEMAND 1: "An answer or one numbered refusal comes back from every public call, for all bytes, tables and numbers lent to it; a refusal alters nothing lent, but for the work area and, after refusal 17, the kept books, which are zeroed."
-- That every call answers and ends is its contract: none has a `requires`, and each equates answer and lent words with the outcomes named here.
-- Assumes nothing.
use Rattle.std.specs.Prelude.{Ok, Err}
use Prim.Native.Nat.{ℕ, ◌<◌, ◌≤◌}
use native.Mathlib.Omega.{arith}
use mathlib.Core.Path.{◌≡◌, refl, sym, ap, ◌∙◌}
use mathlib.Core.Logic.{⊎_elim, ◌↔◌}
use mathlib.Core.Bool.{Bool, true, false, cond}
use mathlib.Core.List.{List, [], ◌∷◌, ◌++◌}
use lib.Dec.{leb}
use lib.ListN.{length, take, drop, replicate, length-replicate}
use lib.Seq.{take_at, drop_at}
use borrow.Author.Tests.{leb-true, leb-false}
use Rattle.theory.specs.Refusal.{told}
use Rattle.theory.specs.declared.Counts.{Counts}
use Rattle.theory.specs.declared.Refusal.{Refusal}
use Rattle.theory.specs.declared.Refusal.TheVariants.{BadKind, CutRecord, PastLimit, BadAtom, BadOperand, NoOperands, BadRoot, NotRising, ShortBuffer, UnsupportedRoot, UnsupportedBody, PositiveCycle, RankShape, RankOrder, ForeignStamp, StrayBit, BadEntry}
use Rattle.record.specs.Contents.{Contents}
use Rattle.record.specs.File.{File, sound, refused}
use Rattle.record.specs.declared.Summary.{Summary}
use Rattle.encoding.specs.Sound.{Below}
use Rattle.load.specs.Tables as load
use Rattle.load.specs.Loading.{loading, loading_sound}
use Rattle.load.proofs.Loads as ways
use Rattle.plan.specs.Outcome.{planned, plan_outcome, certify_outcome}
use Rattle.kept.specs.Tables.{Tables}
use Rattle.kept.specs.Candidate.{Candidate, atoms_of}
use Rattle.kept.specs.Layout.{of_words, listed}
use Rattle.kept.specs.Check as check
use Rattle.kept.specs.Check.{result}
use Rattle.kept.specs.Tests.{tests}
use Rattle.kept.specs.TestLaws.{tests-not_17}
use Rattle.kept.specs.Outcome as kept
use Rattle.kept.specs.Outcome.{cleared, concluded, outcome_at, outcome}
use Rattle.kept_laws.proofs.AnyWords.{outcome_keeps}
use Rattle.answers.specs.Word.{planning_word, check_word}
use Rattle.answers.specs.Unpacked.{planning_in, answer_in}
use Rattle.answers.specs.WordLaws.{planning_back, answer_back}
use Rattle.answers.proofs.PlanFits.{plan_fits, certify_fits}
use Rattle.answers.proofs.CheckFits.{outcome_fits}
use Rattle.text.specs.Lines.{theory_line, refused_line}
use Rattle.run.specs.Text.{text_of}
use Rattle.run.specs.Run.{Running, running, run_of}
use Rattle.demands.specs.Demand1.{Numbered, PlanLeaves, CheckLeaves, RunLeaves, Demand1}
use Rattle.demands.specs.Told as told
use Rattle.demands.proofs.Told as bytes
use Rattle.theory.specs.Admission.{Admission}

-- ---- numbers

numbered : (r : Refusal) → Numbered r
unfolding told
numbered (BadKind k) = record { place = k; more = []; tells = refl; least = omega arith; most = omega arith }
numbered (CutRecord k) = record { place = k; more = []; tells = refl; least = omega arith; most = omega arith }
numbered (PastLimit k) = record { place = k; more = []; tells = refl; least = omega arith; most = omega arith }
numbered (BadAtom k) = record { place = k; more = []; tells = refl; least = omega arith; most = omega arith }
numbered (BadOperand k) = record { place = k; more = []; tells = refl; least = omega arith; most = omega arith }
numbered (NoOperands k) = record { place = k; more = []; tells = refl; least = omega arith; most = omega arith }
numbered (BadRoot k) = record { place = k; more = []; tells = refl; least = omega arith; most = omega arith }
numbered (NotRising k) = record { place = k; more = []; tells = refl; least = omega arith; most = omega arith }
numbered (ShortBuffer k) = record { place = k; more = []; tells = refl; least = omega arith; most = omega arith }
numbered (UnsupportedRoot k) = record { place = k; more = []; tells = refl; least = omega arith; most = omega arith }
numbered (UnsupportedBody k b) = record { place = k; more = b ∷ []; tells = refl; least = omega arith; most = omega arith }
numbered (PositiveCycle k) = record { place = k; more = []; tells = refl; least = omega arith; most = omega arith }
numbered RankShape = record { place = 0; more = []; tells = refl; least = omega arith; most = omega arith }
numbered (RankOrder k) = record { place = k; more = []; tells = refl; least = omega arith; most = omega arith }
numbered ForeignStamp = record { place = 0; more = []; tells = refl; least = omega arith; most = omega arith }
numbered (StrayBit k) = record { place = k; more = []; tells = refl; least = omega arith; most = omega arith }
numbered (BadEntry k) = record { place = k; more = []; tells = refl; least = omega arith; most = omega arith }

-- ---- load

sound-leaves : (s : Summary) (t : Contents) (b : load.Tables) (r : Refusal) → (loading_sound s t b).answer ≡ Err r → (loading_sound s t b).left ≡ b
sound-leaves s t b r e = go (ways.loads s t b)
  where
    go : ways.Loads s t b → (loading_sound s t b).left ≡ b
    go (ways.nodes_short n q) = ap (λ o. o.left) q
    go (ways.operands_short n o q) = ap (λ o. o.left) q
    go (ways.roots_short n o m q) = ap (λ o. o.left) q
    go (ways.all_long w q) =
        let f : Ok s ≡ Err r = sym (ap (λ o. o.answer) q) ∙ e in
        let z : ◌≡◌ {A = ℕ} 0 1 = cc in absurd (omega arith)

load_leaves : (f : File) (b : load.Tables) (r : Refusal) → (loading f b).answer ≡ Err r → (loading f b).left ≡ b
unfolding loading
load_leaves (sound s t) b r e = sound-leaves s t b r e
load_leaves (refused x) b r e = refl

-- ---- plan and certify

plan-leaves : (t : Counts) (nodes operands roots ps rs us ws : List ℕ) (a : Admission) (ranked : List ℕ) → PlanLeaves ps rs us ws (planned t nodes operands roots ps rs us ws a ranked)
unfolding planned
plan-leaves t nodes operands roots ps rs us ws (Ok u) ranked =
    let no : (p : ℕ) (r : Refusal) → Ok p ≡ Err r → ⊥ = λ p r e. let n : ◌≡◌ {A = ℕ} 0 1 = cc in omega arith in
    record { work_zero = refl; producers_same = λ r e. absurd (no _ r e); ranks_same = λ r e. absurd (no _ r e); readers_same = λ r e. absurd (no _ r e) }
plan-leaves t nodes operands roots ps rs us ws (Err x) ranked =
    record { work_zero = refl; producers_same = λ r e. refl; ranks_same = λ r e. refl; readers_same = λ r e. refl }

-- ---- check

module _ (floor divisor : ℕ) (T : Tables) (c : Candidate) (ws : List ℕ) where
  -- 17 comes after the tests, and clears the listed words
  cleared_by : (k : ℕ) → (outcome floor divisor T c ws).answer ≡ kept.refused (BadEntry k) → (outcome floor divisor T c ws).words ≡ cleared T ws
  unfolding outcome outcome_at
  cleared_by k = go (tests T c (length ws)) refl
    where
      done : (x : check.Result) → (concluded T ws x).answer ≡ kept.refused (BadEntry k) → (concluded T ws x).words ≡ cleared T ws
      done (check.accepted v n d) e = let z : ◌≡◌ {A = ℕ} 0 1 = cc in absurd (omega arith)
      done (check.refused r) e = refl

      go : (a : Admission) → tests T c (length ws) ≡ a → (outcome_at floor divisor T c ws a).answer ≡ kept.refused (BadEntry k) → (outcome_at floor divisor T c ws a).words ≡ cleared T ws
      go (Ok u) q e = done (result floor divisor T (atoms_of T c) (of_words T ws)) e
      go (Err r) q e = let z : r ≡ BadEntry k = cc in absurd (tests-not_17 T c (length ws) k (q ∙ ap Err z))

  check_leaves : CheckLeaves T ws (outcome floor divisor T c ws)
  unfolding cleared
  check_leaves =
      let w = outcome_keeps T floor divisor c ws in
      record {
        words_same = λ r e no. ⊎_elim (λ same. same) (λ z. absurd (no z.0.0 z.0.1)) (w.refusal r e);
        words_zero = λ k e.
            ap (take (listed T)) (cleared_by k e) ∙ take_at (replicate (listed T) 0) (drop (listed T) ws) (listed T) (length-replicate {A = ℕ} (listed T) 0);
        past_same = w.past;
        length_same = w.long;
      }

-- ---- run

refusal_long : (r : Refusal) → 0 < length (refused_line r)
unfolding refused_line
refusal_long r = omega arith

-- every text has a line
text_long : (file : List ℕ) → told.Told file → 0 < length (text_of file)
unfolding theory_line
text_long file (told.too_long l e) = rw e (refusal_long _)
text_long file (told.unsound r l n q m e) = rw e (refusal_long r)
text_long file (told.many_atoms f h a e) = rw e (refusal_long _)
text_long file (told.many_nodes f h a b e) = rw e (refusal_long _)
text_long file (told.many_operands f h a b d e) = rw e (refusal_long _)
text_long file (told.many_roots f h a b d g e) = rw e (refusal_long _)
text_long file (told.unplanned f r h q u e) = rw e (refusal_long r)
text_long file (told.judged f p lines h q e n each) = rw e (omega arith)

module _ (file out : List ℕ) (small : Below 256 file) where
  abbrev size : ℕ
  size = length (text_of file)

  abbrev ran : Bool → Running
  ran fits = cond fits (running size (text_of file ++ drop size out)) (running 0 out)

  leaves_by : (fits : Bool) → leb size (length out) ≡ fits
      → (((ran fits).answer ≡ 0) ↔ (length out < size)) × ((ran fits).answer ≡ 0 → (ran fits).output ≡ out) × (drop (ran fits).answer (ran fits).output ≡ drop (ran fits).answer out)
  leaves_by true e =
      let some : 0 < size = text_long file (bytes.told file small) in
      let room : size ≤ length out = leb-true size (length out) e in (
        (λ z. absurd (omega arith), λ l. absurd (omega arith)),
        λ z. absurd (omega arith),
        drop_at (text_of file) (drop size out) size refl,
      )
  leaves_by false e = ((λ z. leb-false size (length out) e, λ l. refl), λ z. refl, refl)

  run_leaves : RunLeaves file out
  unfolding run_of
  run_leaves =
      let w = leaves_by (leb size (length out)) refl in
      record { refuses = w.0; output_same = w.1; past_same = w.2 }

-- ---- the words that a host gets

word_of_plan : (t : Counts) (nodes operands roots ps rs us ws : List ℕ) → let a = (plan_outcome t nodes operands roots ps rs us ws).answer in planning_in (planning_word a) ≡ a
word_of_plan t nodes operands roots ps rs us ws = planning_back _ (plan_fits t nodes operands roots ps rs us ws)

word_of_certify : (t : Counts) (nodes operands roots proposed ps rs us ws : List ℕ)
    → let a = (certify_outcome t nodes operands roots proposed ps rs us ws).answer in planning_in (planning_word a) ≡ a
word_of_certify t nodes operands roots proposed ps rs us ws = planning_back _ (certify_fits t nodes operands roots ps rs us ws proposed)

word_of_check : (floor divisor : ℕ) (T : Tables) (c : Candidate) (ws : List ℕ) → let a = (outcome floor divisor T c ws).answer in answer_in (check_word a) ≡ a
word_of_check floor divisor T c ws = answer_back _ (outcome_fits floor divisor T c ws)

pub demand_1 : Demand1
unfolding plan_outcome certify_outcome
demand_1 =
    record {
      numbered = numbered;
      of_load = load_leaves;
      of_plan = λ t nodes operands roots ps rs us ws. plan-leaves t nodes operands roots ps rs us ws _ _;
      of_certify = λ t nodes operands roots proposed ps rs us ws. plan-leaves t nodes operands roots ps rs us ws _ proposed;
      of_check = check_leaves;
      of_run = run_leaves;
      word_of_plan = word_of_plan;
      word_of_certify = word_of_certify;
      word_of_check = word_of_check;
    }
